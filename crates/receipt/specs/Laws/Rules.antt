-- The numbers of a receipt that keeps the rules are small, and so is its text: a page has room for it.
-- Assumes nothing.
use Rattle.std.specs.Prelude.{◌≡◌, refl, Bool, true, false, cond, ◌&&◌, List, [], ◌∷◌, ◌++◌, ℕ, zero, suc, ◌+◌, ◌/◌, ◌%◌, ◌^◌, ◌<◌, ◌≤◌, eqb, ltb, leb, length, take}
use Rattle.std.proofs.Common.{append_assoc, arith, pow-suc, length-append, eqb-true, ltb-true, ltb-false, leb-true}
use Prim.Native.String as Text
use Rattle.refusal.specs.Table.{accepted}
use Rattle.numbers.specs.Laws.Tests.{and_left, and_right}
use Rattle.numbers.specs.Ranges.{within}
use Rattle.counts.specs.Counts.{count_limit}
use Rattle.text.specs.Decimal.{glyph, decimal}
use Rattle.text.specs.Put.{Put}
use Rattle.text.specs.Laws.Decimal.{decimal-one, decimal-more, decimal-few, decimal-some}
use Rattle.text.specs.Laws.Put.{put-page}
use Rattle.text.specs.Ascii.{ascii}
use Rattle.receipt.specs.declared.Receipt.{Receipt}
use Rattle.receipt.specs.Receipt.{station_limit, job_limit, verdict_limit, fields_least, fields_most, receipt_limit, page_room, numbered, accepted_right, refused_right, line, named_line, written, rules_kept}
use Rattle.receipt.specs.Steps.{first_lines, counts_lines, last_lines}

-- below 1,000,000,000
abbrev pub Small : ℕ → Type 0
Small n = n < 1000000000

-- each of the numbers is small
pub record AllSmall (r : Receipt) : Type 0 where
  pub station : Small r.station
  pub job : Small r.job
  pub verdict : Small r.verdict
  pub models : Small r.models
  pub chains : Small r.chains
  pub groups : Small r.groups
  pub atoms : Small r.atoms
  pub bonds : Small r.bonds
  pub fields : Small r.fields
  pub units : Small r.units

-- the seven after the verdict
record RestSmall (r : Receipt) : Type 0 where
  models : Small r.models
  chains : Small r.chains
  groups : Small r.groups
  atoms : Small r.atoms
  bonds : Small r.bonds
  fields : Small r.fields
  units : Small r.units

-- five tests and two more, taken apart
apart : (a b c d e f g : Bool) → (a && (b && (c && (d && e)))) && (f && g) ≡ true
    → (a ≡ true) × (b ≡ true) × (c ≡ true) × (d ≡ true) × (e ≡ true) × (f ≡ true) × (g ≡ true)
apart a b c d e f g h =
    let from-1 : a && (b && (c && (d && e))) ≡ true = and_left (a && (b && (c && (d && e)))) (f && g) h in
    let from-2 : b && (c && (d && e)) ≡ true = and_right a (b && (c && (d && e))) from-1 in
    let from-3 : c && (d && e) ≡ true = and_right b (c && (d && e)) from-2 in
    let from-4 : d && e ≡ true = and_right c (d && e) from-3 in
    let from-6 : f && g ≡ true = and_right (a && (b && (c && (d && e)))) (f && g) h in (
      and_left a (b && (c && (d && e))) from-1,
      and_left b (c && (d && e)) from-2,
      and_left c (d && e) from-3,
      and_left d e from-4,
      and_right d e from-4,
      and_left f g from-6,
      and_right f g from-6,
    )

-- a number by a test that it is at most another, or equal to it
few : (n limit : ℕ) → ltb limit 1000000000 ≡ true → leb n limit ≡ true → Small n
few n limit l h = omega (arith, ltb-true limit 1000000000 l, leb-true n limit h)

fixed : (n m : ℕ) → ltb m 1000000000 ≡ true → eqb n m ≡ true → Small n
fixed n m l h = omega (arith, ltb-true m 1000000000 l, eqb-true n m h)

accepted-small : (r : Receipt) → accepted_right r ≡ true → RestSmall r
accepted-small r h =
    let p = apart _ _ _ _ _ _ _ h in
    record {
      models = few r.models count_limit refl p.0;
      chains = few r.chains count_limit refl p.1;
      groups = few r.groups count_limit refl p.2;
      atoms = few r.atoms count_limit refl p.3;
      bonds = few r.bonds count_limit refl p.4;
      fields = few r.fields fields_most refl (and_right (leb fields_least r.fields) (leb r.fields fields_most) p.5);
      units = fixed r.units 1 refl p.6;
    }

refused-small : (r : Receipt) → refused_right r ≡ true → RestSmall r
refused-small r h =
    let p = apart _ _ _ _ _ _ _ h in
    record {
      models = fixed r.models 0 refl p.0;
      chains = fixed r.chains 0 refl p.1;
      groups = fixed r.groups 0 refl p.2;
      atoms = fixed r.atoms 0 refl p.3;
      bonds = fixed r.bonds 0 refl p.4;
      fields = fixed r.fields 0 refl p.5;
      units = fixed r.units 0 refl p.6;
    }

rest-small : (r : Receipt) (t : Bool) → cond t (accepted_right r) (refused_right r) ≡ true → RestSmall r
rest-small r true h = accepted-small r h
rest-small r false h = refused-small r h

-- the numbers of a receipt that keeps the rules are small
pub allowed-small : (r : Receipt) → rules_kept r ≡ true → AllSmall r
unfolding rules_kept
allowed-small r h =
    let rest : Bool = cond (eqb r.verdict accepted) (accepted_right r) (refused_right r) in
    let numbers = and_left (numbered r.station r.job) (leb r.verdict verdict_limit && rest) h in
    let after = and_right (numbered r.station r.job) (leb r.verdict verdict_limit && rest) h in
    let station = and_left (within 1 station_limit r.station) (within 1 job_limit r.job) numbers in
    let job = and_right (within 1 station_limit r.station) (within 1 job_limit r.job) numbers in
    let s = rest-small r (eqb r.verdict accepted) (and_right (leb r.verdict verdict_limit) rest after) in
    record {
      station = few r.station station_limit refl (and_right (leb 1 r.station) (leb r.station station_limit) station);
      job = few r.job job_limit refl (and_right (leb 1 r.job) (leb r.job job_limit) job);
      verdict = few r.verdict verdict_limit refl (and_left (leb r.verdict verdict_limit) rest after);
      models = s.models;
      chains = s.chains;
      groups = s.groups;
      atoms = s.atoms;
      bonds = s.bonds;
      fields = s.fields;
      units = s.units;
    }

-- the ten lines in three parts
pub written-parts : (r : Receipt) → first_lines r ++ counts_lines r ++ last_lines r ≡ written r
unfolding written
written-parts r = simp append_assoc

-- a line has its name, a sign, at most ten digits and a line feed
line-most : (name : Text.String) (n : ℕ) → length (named_line name n) ≤ length (ascii name) + 12
unfolding line
line-most name n =
    let d : length (decimal n) ≤ 10 = decimal-few n in
    simp length-append (omega arith)

-- ten lines have room on a page
pub written-most : (r : Receipt) → length (written r) ≤ page_room
unfolding written
written-most r =
    let a = line-most "station" r.station in
    let b = line-most "job" r.job in
    let c = line-most "verdict" r.verdict in
    let d = line-most "models" r.models in
    let e = line-most "chains" r.chains in
    let f = line-most "groups" r.groups in
    let g = line-most "atoms" r.atoms in
    let h = line-most "bonds" r.bonds in
    let i = line-most "fields" r.fields in
    let j = line-most "units" r.units in
    simp length-append (omega arith)

-- a page has room for them
pub page-holds : (r : Receipt) {old new : List ℕ} {next : ℕ} → length old ≡ page_room → Put old 0 (written r) new next → (next ≡ length (written r)) × (take next new ≡ written r)
page-holds r {old} {new} {next} l p = let m = written-most r in put-page p (omega arith)

-- How long a receipt is that keeps the rules

-- a number below ten to the power of k + 1 has at most k + 1 digits
pub decimal-short : (k n : ℕ) → n < 10 ^ suc k → n < 1000000000 → length (decimal n) ≤ suc k
decimal-short zero n h f = rw (decimal-one n h) (omega arith)
decimal-short (suc k) n h f = go (ltb n 10) refl (decimal-short k (n / 10) (let p = pow-suc 10 (suc k) in omega arith) (omega arith))
  where
    go : (t : Bool) → ltb n 10 ≡ t → length (decimal (n / 10)) ≤ suc k → length (decimal n) ≤ suc (suc k)
    go true e few = rw (decimal-one n (ltb-true n 10 e)) (omega arith)
    go false e few = rw (decimal-more n (ltb-false n 10 e) (omega arith)) (omega (arith, length-append (decimal (n / 10)) (glyph (n % 10) ∷ [])))

-- the digits of the verdict and of the seven numbers after it
rest_digits : Receipt → ℕ
rest_digits r =
    length (decimal r.verdict)
    + length (decimal r.models)
    + length (decimal r.chains)
    + length (decimal r.groups)
    + length (decimal r.atoms)
    + length (decimal r.bonds)
    + length (decimal r.fields)
    + length (decimal r.units)

-- the digits of a number by a test that it is at most another, or equal to it
few-digits : (k n limit : ℕ) → ltb limit (10 ^ suc k) ≡ true → ltb limit 1000000000 ≡ true → leb n limit ≡ true → length (decimal n) ≤ suc k
few-digits k n limit l m h =
    let a = leb-true n limit h in
    let b = ltb-true limit (10 ^ suc k) l in
    let c = ltb-true limit 1000000000 m in
    decimal-short k n (omega arith) (omega arith)

fixed-digit : (n m : ℕ) → ltb m 10 ≡ true → eqb n m ≡ true → length (decimal n) ≤ 1
fixed-digit n m l h =
    let a = eqb-true n m h in
    let b = ltb-true m 10 l in
    decimal-short 0 n (omega arith) (omega arith)

rest-most : (r : Receipt) (t : Bool) → eqb r.verdict accepted ≡ t → leb r.verdict verdict_limit ≡ true → cond t (accepted_right r) (refused_right r) ≡ true → rest_digits r ≤ 44
unfolding rest_digits
rest-most r true e v h =
    let p = apart _ _ _ _ _ _ _ h in
    let a : length (decimal r.verdict) ≤ 1 = fixed-digit r.verdict 0 refl e in
    let b : length (decimal r.models) ≤ 8 = few-digits 7 r.models count_limit refl refl p.0 in
    let c : length (decimal r.chains) ≤ 8 = few-digits 7 r.chains count_limit refl refl p.1 in
    let d : length (decimal r.groups) ≤ 8 = few-digits 7 r.groups count_limit refl refl p.2 in
    let f : length (decimal r.atoms) ≤ 8 = few-digits 7 r.atoms count_limit refl refl p.3 in
    let g : length (decimal r.bonds) ≤ 8 = few-digits 7 r.bonds count_limit refl refl p.4 in
    let i : length (decimal r.fields) ≤ 2 = few-digits 1 r.fields fields_most refl refl (and_right (leb fields_least r.fields) (leb r.fields fields_most) p.5) in
    let j : length (decimal r.units) ≤ 1 = fixed-digit r.units 1 refl p.6 in
    omega arith
rest-most r false e v h =
    let p = apart _ _ _ _ _ _ _ h in
    let a : length (decimal r.verdict) ≤ 2 = few-digits 1 r.verdict verdict_limit refl refl v in
    let b : length (decimal r.models) ≤ 1 = fixed-digit r.models 0 refl p.0 in
    let c : length (decimal r.chains) ≤ 1 = fixed-digit r.chains 0 refl p.1 in
    let d : length (decimal r.groups) ≤ 1 = fixed-digit r.groups 0 refl p.2 in
    let f : length (decimal r.atoms) ≤ 1 = fixed-digit r.atoms 0 refl p.3 in
    let g : length (decimal r.bonds) ≤ 1 = fixed-digit r.bonds 0 refl p.4 in
    let i : length (decimal r.fields) ≤ 1 = fixed-digit r.fields 0 refl p.5 in
    let j : length (decimal r.units) ≤ 1 = fixed-digit r.units 0 refl p.6 in
    omega arith

pub line-length : (name : Text.String) (n : ℕ) → length (named_line name n) ≡ length (ascii name) + 2 + length (decimal n)
unfolding line
line-length name n = simp length-append (omega arith)

written-length : (r : Receipt) → length (written r) ≡ 76 + length (decimal r.station) + length (decimal r.job) + rest_digits r
unfolding written rest_digits
written-length r =
    let a = line-length "station" r.station in
    let b = line-length "job" r.job in
    let c = line-length "verdict" r.verdict in
    let d = line-length "models" r.models in
    let e = line-length "chains" r.chains in
    let f = line-length "groups" r.groups in
    let g = line-length "atoms" r.atoms in
    let h = line-length "bonds" r.bonds in
    let i = line-length "fields" r.fields in
    let j = line-length "units" r.units in
    simp length-append (omega arith)

-- a receipt has a digit in each line
pub written-least : (r : Receipt) → 86 ≤ length (written r)
unfolding rest_digits
written-least r =
    omega (
      arith,
      written-length r,
      decimal-some r.station,
      decimal-some r.job,
      decimal-some r.verdict,
      decimal-some r.models,
      decimal-some r.chains,
      decimal-some r.groups,
      decimal-some r.atoms,
      decimal-some r.bonds,
      decimal-some r.fields,
      decimal-some r.units,
    )

pub receipt-most : (r : Receipt) → rules_kept r ≡ true → length (written r) ≤ receipt_limit
unfolding rules_kept
receipt-most r h =
    let rest : Bool = cond (eqb r.verdict accepted) (accepted_right r) (refused_right r) in
    let numbers = and_left (numbered r.station r.job) (leb r.verdict verdict_limit && rest) h in
    let after = and_right (numbered r.station r.job) (leb r.verdict verdict_limit && rest) h in
    let station = and_left (within 1 station_limit r.station) (within 1 job_limit r.job) numbers in
    let job = and_right (within 1 station_limit r.station) (within 1 job_limit r.job) numbers in
    let a : length (decimal r.station) ≤ 2 = few-digits 1 r.station station_limit refl refl (and_right (leb 1 r.station) (leb r.station station_limit) station) in
    let b : length (decimal r.job) ≤ 6 = few-digits 5 r.job job_limit refl refl (and_right (leb 1 r.job) (leb r.job job_limit) job) in
    let c = rest-most r (eqb r.verdict accepted) refl (and_left (leb r.verdict verdict_limit) rest after) (and_right (leb r.verdict verdict_limit) rest after) in
    omega (arith, written-length r)

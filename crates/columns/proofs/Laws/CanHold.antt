-- What a codec can hold, against the table of codecs and the encoder: an encoder succeeds exactly for the columns that its codec can hold, and
-- whatever bytes decode to is held by their codec. Assumes nothing.
use Rattle.std.specs.Prelude.{Option, Some, None, ◌↔◌, ◌≡◌, Bool, cond, ◌&&◌, ◌||◌, ℤ, negsuc, ◌≤ℤ◌, T, leb}
use Rattle.std.proofs.Math.Path.{refl, ap, subst}
use Rattle.std.proofs.Common.{sym, ◌∙◌, add-mul, one-mul, div-add-mod', mul-div_cancel, mod-lt, le-div_iff_mul-le, div-mul-le_self, of_z}
use Rattle.std.proofs.Math.Bool.{true, false, not, and-eq-true_iff}
use mathlib.Core.List.{List, [], ◌∷◌, ◌++◌}
use Prim.Native.Nat.{ℕ, zero, suc, ◌+◌, ◌*◌, ◌/◌, ◌%◌, ◌≤◌, ◌<◌}
use Rattle.std.proofs.Math.Nat.{mul-mod_left, zero-mod, div-eq_of_lt-le}
use native.Mathlib.Omega.{arith}
use Rattle.std.proofs.Math.ListN.{length, get_or}
use Rattle.std.proofs.Math.IntN.{pos}
use Rattle.std.specs.Int.Signed.{le_z}
use Rattle.std.proofs.Math.Dec.{eqb}
use mir.Syntax.{w32}
use borrow.Author.Tests.{eqb-true, eqb-false, eq-eqb, ne_eqb, not-false, leb-true, le-leb}
use Rattle.numbers.specs.BigEndian.{unsigned_at}
use Rattle.numbers.specs.Ranges.{integer_limit}
use Rattle.steps.specs.declared.Range.{Range}
use Rattle.steps.specs.declared.Form.{Form}
use Rattle.steps.specs.declared.Form.TheVariants.{Plain, Packed, Runs, Names}
use Rattle.steps.specs.Fits.{Every}
use Rattle.steps.proofs.Laws.Fits.{every_map}
use Rattle.steps.specs.Payload.{least_in, most_in, in_range, all_in, range_of, padded_from, padded, allowed}
use Rattle.columns.specs.declared.Kind.{Kind}
use Rattle.columns.specs.declared.Kind.TheVariants as kind
use Rattle.columns.specs.declared.Wanted.{Wanted}
use Rattle.columns.specs.declared.Wanted.TheVariants.{Only}
use Rattle.columns.specs.declared.Parameter.{Parameter}
use Rattle.columns.specs.declared.Parameter.TheVariants.{Unused, Divisor, NameSize}
use Rattle.columns.specs.declared.Codec.{Codec}
use Rattle.columns.specs.Table.{codec_with, table, codec_of, kind_tag, length_limit, name_limit, parameter_ok, used, is_names}
use Rattle.columns.specs.Header.{header_bytes}
use Rattle.columns.specs.Decode.{column, decode}
use Rattle.columns.specs.Encode.{bytes, results, whole_results, payload_of, encode}
use Rattle.columns.specs.CanHold.{is_one_of, codecs_of, least_by, most_by, ZeroPadded, CanHold}
use Rattle.columns.proofs.Laws.Same.{same_codec}
use Rattle.columns.proofs.Laws.Rows.{same_kind}
use Rattle.columns.proofs.Laws.Encode.{Encoded, encode-rules, encode-kept}
use Rattle.columns.proofs.Laws.Decode.{decode-rules}
use Rattle.columns.proofs.Laws.RoundTrip.{decoded-encoded}

-- Names

-- a byte is 0 where its bits are
zero_bits : (x : ℤ) → le_z (pos 0) x ≡ true → of_z w32 x ≡ 0 → x ≡ pos 0
zero_bits (pos n) h e = ap pos e
zero_bits (negsuc n) h e = let y : ◌≡◌ {A = ℕ} 0 1 = cc in absurd (omega arith)

abbrev NoneNegative : List ℤ → Type 0
NoneNegative xs = Every (λ (x : ℤ). le_z (pos 0) x ≡ true) xs

none-at : (xs : List ℤ) (j : ℕ) → NoneNegative xs → le_z (pos 0) (get_or xs j (pos 0)) ≡ true
unfolding Every
none-at [] j h = refl
none-at (x ∷ xs) zero h = h.0
none-at (x ∷ xs) (suc j) h = none-at xs j h.1

step : (x y z : Bool) → (x || y || z) ≡ true → x ≡ false → y ≡ false → z ≡ true
step true y z e h k = let w : ◌≡◌ {A = ℕ} 0 1 = cc in absurd (omega arith)
step false true z e h k = let w : ◌≡◌ {A = ℕ} 0 1 = cc in absurd (omega arith)
step false false z e h k = e

unstep : (x y z : Bool) → (x ≡ false → y ≡ false → z ≡ true) → (x || y || z) ≡ true
unstep true y z h = refl
unstep false true z h = refl
unstep false false z h = h refl refl

module _ (m : ℕ) where
  -- by the bytes before them: a byte that starts no name is 0 where the one before it is
  Follows : ℕ → ℤ → List ℤ → Type 0
  Follows i a bs = (j : ℕ) → j < length bs → ((i + j) % m ≡ 0 → ⊥) → of_z w32 (get_or (a ∷ bs) j (pos 0)) ≡ 0 → of_z w32 (get_or bs j (pos 0)) ≡ 0

  padded-follows : (i : ℕ) (a : ℤ) (bs : List ℤ) → padded_from m i a bs ≡ true → Follows i a bs
  unfolding padded_from Follows
  padded-follows i a [] e j l n z = absurd (omega arith)
  padded-follows i a (b ∷ bs) e zero l n z =
      let h = (and-eq-true_iff (eqb (i % m) 0 || not (eqb (of_z w32 a) 0) || eqb (of_z w32 b) 0) (padded_from m (suc i) b bs)).0 e in
      let k : i + 0 ≡ i = omega arith in
      eqb-true (of_z w32 b) 0 (step (eqb (i % m) 0) (not (eqb (of_z w32 a) 0)) (eqb (of_z w32 b) 0) h.0 (ne_eqb (i % m) 0 (rw k at n)) (ap not (eq-eqb (of_z w32 a) 0 z)))
  padded-follows i a (b ∷ bs) e (suc j) l n z =
      let h = (and-eq-true_iff (eqb (i % m) 0 || not (eqb (of_z w32 a) 0) || eqb (of_z w32 b) 0) (padded_from m (suc i) b bs)).0 e in
      let k : i + suc j ≡ suc i + j = omega arith in
      padded-follows (suc i) b bs h.1 j (omega arith) (rw k at n) z

  follows-padded : (i : ℕ) (a : ℤ) (bs : List ℤ) → Follows i a bs → padded_from m i a bs ≡ true
  unfolding padded_from Follows
  follows-padded i a [] h = refl
  follows-padded i a (b ∷ bs) h =
      (and-eq-true_iff (eqb (i % m) 0 || not (eqb (of_z w32 a) 0) || eqb (of_z w32 b) 0) (padded_from m (suc i) b bs)).1
      (unstep (eqb (i % m) 0) (not (eqb (of_z w32 a) 0)) (eqb (of_z w32 b) 0) here, follows-padded (suc i) b bs there)
    where
      here : eqb (i % m) 0 ≡ false → not (eqb (of_z w32 a) 0) ≡ false → eqb (of_z w32 b) 0 ≡ true
      here e z =
          let k : i + 0 ≡ i = omega arith in
          eq-eqb (of_z w32 b) 0 (h 0 (omega arith) (rw k (eqb-false (i % m) 0 e)) (eqb-true (of_z w32 a) 0 (not-false (eqb (of_z w32 a) 0) z)))

      there : Follows (suc i) b bs
      there j l n z = let k : i + suc j ≡ suc i + j = omega arith in h (suc j) (omega arith) (rw k n) z

  module _ (p : 0 < m) where
    -- before a place that starts no name stands a byte of the same name
    same_name : (j : ℕ) → (suc j % m ≡ 0 → ⊥) → j / m ≡ suc j / m
    same_name j h =
        let a = div-add-mod' (suc j) m in
        let l = mod-lt (suc j) p in
        div-eq_of_lt-le {k = suc j / m} m {m = j} (omega arith) (rw (add-mul (suc j / m) 1 m, one-mul m) (omega arith))

    -- of two places of one name the second starts none
    no_start : (i j : ℕ) → i < j → i / m ≡ j / m → j % m ≡ 0 → ⊥
    no_start i j l e z =
        let a = div-add-mod' j m in
        let b : i / m * m ≤ i = div-mul-le_self i m in
        let c : i / m * m ≡ j / m * m = ap (λ (q : ℕ). q * m) e in
        omega arith

    -- between them stands the same name
    between : (i j : ℕ) → i < suc j → i / m ≡ suc j / m → i / m ≡ j / m
    between i j l e =
        let a : i / m ≤ j / m = (le-div_iff_mul-le {y = j} p).1 (omega (arith, div-mul-le_self i m)) in
        let b : j / m ≤ suc j / m = (le-div_iff_mul-le {y = suc j} p).1 (omega (arith, div-mul-le_self j m)) in
        omega arith

    module _ (xs : List ℤ) (g : NoneNegative xs) where
      pub padded-zero : padded_from m 0 (pos 0) xs ≡ true → ZeroPadded m xs
      unfolding Follows
      padded-zero e i j l in-xs q z = from j l in-xs q
        where
          after : (j : ℕ) → j < length xs → (j % m ≡ 0 → ⊥) → get_or (pos 0 ∷ xs) j (pos 0) ≡ pos 0 → get_or xs j (pos 0) ≡ pos 0
          after j l n z =
              let k : 0 + j ≡ j = omega arith in
              zero_bits (get_or xs j (pos 0)) (none-at xs j g) (padded-follows 0 (pos 0) xs e j l (rw k n) (ap (of_z w32) z))

          from : (j : ℕ) → i < j → j < length xs → i / m ≡ j / m → get_or xs j (pos 0) ≡ pos 0
          from zero l k q = absurd (omega arith)
          from (suc j) l k q = after (suc j) k (no_start i (suc j) l q) (by (eqb i j) refl (λ r. from j r (omega arith) (between i j l q)))
            where
              by : (t : Bool) → eqb i j ≡ t → (i < j → get_or xs j (pos 0) ≡ pos 0) → get_or xs j (pos 0) ≡ pos 0
              by true s f = rw (eqb-true i j s) at z
              by false s f = let r = eqb-false i j s in f (omega arith)

      pub zero-padded : ZeroPadded m xs → padded_from m 0 (pos 0) xs ≡ true
      unfolding Follows
      zero-padded h = follows-padded 0 (pos 0) xs here
        where
          here : Follows 0 (pos 0) xs
          here zero l n z = absurd (n (zero-mod m))
          here (suc j) l n z =
              let k : 0 + suc j ≡ suc j = omega arith in
              ap (of_z w32) (h j (suc j) (omega arith) l (same_name j (rw k at n)) (zero_bits (get_or xs j (pos 0)) (none-at xs j g) z))

-- Numbers

holds-T : (b : Bool) → b ≡ true → T b
holds-T true e = tt
holds-T false e = let y : ◌≡◌ {A = ℕ} 0 1 = cc in absurd (omega arith)

T-holds : (b : Bool) → T b → b ≡ true
T-holds true t = refl
T-holds false t = absurd t

-- the numbers of a range, by its ends
module _ (r : Range) (c : ℕ) (low : least_in r ≡ least_by c) (high : most_in r ≡ most_by c) where
  in-numbers : (xs : List ℤ) → all_in r xs ≡ true → Every (λ (x : ℤ). (least_by c ≤ℤ x) × (x ≤ℤ most_by c)) xs
  unfolding all_in Every
  in-numbers [] e = tt
  in-numbers (x ∷ xs) e =
      let h = (and-eq-true_iff (in_range r x) (all_in r xs)).0 e in
      let g = (and-eq-true_iff (le_z (least_in r) x) (le_z x (most_in r))).0 h.0 in
      ((record { le = holds-T (le_z (least_by c) x) (rw low at g.0) }, record { le = holds-T (le_z x (most_by c)) (rw high at g.1) }), in-numbers xs h.1)

  numbers-in : (xs : List ℤ) → Every (λ (x : ℤ). (least_by c ≤ℤ x) × (x ≤ℤ most_by c)) xs → all_in r xs ≡ true
  unfolding all_in Every
  numbers-in [] h = refl
  numbers-in (x ∷ xs) h =
      (and-eq-true_iff (in_range r x) (all_in r xs)).1
      ((and-eq-true_iff (le_z (least_in r) x) (le_z x (most_in r))).1 (rw low (T-holds (le_z (least_by c) x) h.0.0.le), rw high (T-holds (le_z x (most_by c)) h.0.1.le)), numbers-in xs h.1)

-- the bytes of names are not negative
not_negative : (c : ℕ) → c ≡ 5 → (x : ℤ) → (least_by c ≤ℤ x) × (x ≤ℤ most_by c) → le_z (pos 0) x ≡ true
unfolding is_one_of
not_negative c e x h = T-holds (le_z (pos 0) x) (subst (λ (i : ℕ). least_by i ≤ℤ x) e h.0).le

-- Rows

-- the parameter of a codec by its number
abbrev parameter_by : ℕ → Parameter
parameter_by c = cond (eqb c 5) NameSize (cond (leb 9 c && leb c 13) Divisor Unused)

-- the parameter of a codec by its kind
abbrev pub parameter_of : Kind → Parameter
parameter_of kind.Float32 = Unused
parameter_of kind.FixedPoint = Divisor
parameter_of kind.Int8 = Unused
parameter_of kind.Int16 = Unused
parameter_of kind.Int32 = Unused
parameter_of kind.Strings = NameSize
parameter_of kind.Chars = Unused

-- what the row of codec c has of what it can hold
abbrev Row : ℕ → Option Codec → Type 0
Row c None = Unit {0}
Row c (Some r) =
    (is_one_of c (codecs_of r.kind) ≡ true) × (least_in (range_of r.form) ≡ least_by c) × (most_in (range_of r.form) ≡ most_by c) × (is_names r.form ≡ eqb c 5)
    × (parameter_by c ≡ r.parameter) × (parameter_of r.kind ≡ r.parameter)

abbrev pub Rows : (ℕ → Option Codec → Type 0) → List (Option Codec) → Type 0
Rows P [] = Unit {0}
Rows P (t ∷ ts) = P 0 t × Rows (λ (i : ℕ). P (suc i)) ts

pub row_at : (P : ℕ → Option Codec → Type 0) (ts : List (Option Codec)) → Rows P ts → ((c : ℕ) → P c None) → (c : ℕ) → P c (get_or ts c None)
row_at P [] r u c = u c
row_at P (t ∷ ts) r u zero = r.0
row_at P (t ∷ ts) r u (suc c) = row_at (λ (i : ℕ). P (suc i)) ts r.1 (λ i. u (suc i)) c

rows : Rows Row table
unfolding is_one_of
rows = (tt, ((refl, refl, refl, refl, refl, refl), ((refl, refl, refl, refl, refl, refl), ((refl, refl, refl, refl, refl, refl), ((refl, refl, refl, refl, refl, refl), ((refl, refl, refl, refl, refl, refl), ((refl, refl, refl, refl, refl, refl), ((refl, refl, refl, refl, refl, refl), ((refl, refl, refl, refl, refl, refl), ((refl, refl, refl, refl, refl, refl), ((refl, refl, refl, refl, refl, refl), ((refl, refl, refl, refl, refl, refl), ((refl, refl, refl, refl, refl, refl), ((refl, refl, refl, refl, refl, refl), ((refl, refl, refl, refl, refl, refl), ((refl, refl, refl, refl, refl, refl), ((refl, refl, refl, refl, refl, refl), tt)))))))))))))))))

-- the codecs of a kind are those of its rows
abbrev OfKind : Kind → Option Codec → Type 0
OfKind k None = ⊥
OfKind k (Some r) = r.kind ≡ k

abbrev Each : (ℕ → Type 0) → List ℕ → Type 0
Each P [] = Unit {0}
Each P (c ∷ cs) = P c × Each P cs

each_at : (P : ℕ → Type 0) (cs : List ℕ) (c : ℕ) → Each P cs → is_one_of c cs ≡ true → P c
unfolding is_one_of
each_at P [] c h e = let y : ◌≡◌ {A = ℕ} 0 1 = cc in absurd (omega arith)
each_at P (d ∷ cs) c h e = by (eqb c d) refl e (each_at P cs c h.1)
  where
    by : (t : Bool) → eqb c d ≡ t → (t || is_one_of c cs) ≡ true → (is_one_of c cs ≡ true → P c) → P c
    by true q e f = subst P (sym (eqb-true c d q)) h.0
    by false q e f = f e

kinds : (k : Kind) → Each (λ (c : ℕ). OfKind k (codec_of c)) (codecs_of k)
unfolding codec_of
kinds kind.Float32 = (refl, tt)
kinds kind.FixedPoint = (refl, (refl, (refl, (refl, (refl, tt)))))
kinds kind.Int8 = (refl, (refl, tt))
kinds kind.Int16 = (refl, tt)
kinds kind.Int32 = (refl, (refl, (refl, (refl, (refl, tt)))))
kinds kind.Strings = (refl, tt)
kinds kind.Chars = (refl, tt)

known_as : (k : Kind) (t : Option Codec) → OfKind k t → (f : Form) × (d : Bool) × (p : Parameter) × (t ≡ codec_with k f d p)
known_as k None h = absurd h
known_as k (Some r) h = (r.form, r.delta, r.parameter, ap (λ (i : Kind). codec_with i r.form r.delta r.parameter) h)

-- the kind of a codec by its number
pub codec-kind : {k j : Kind} {f : Form} {d : Bool} {p : Parameter} (c : ℕ) → is_one_of c (codecs_of k) ≡ true → codec_of c ≡ codec_with j f d p → j ≡ k
codec-kind {k} {j} {f} {d} {p} c h e =
    let t = known_as k (codec_of c) (each_at (λ (i : ℕ). OfKind k (codec_of i)) (codecs_of k) c (kinds k) h) in
    (same_codec (sym e ∙ t.3)).0

-- The encoder

module _ (k : Kind) (f : Form) (d : Bool) (p : Parameter) (c : ℕ) (q : codec_of c ≡ codec_with k f d p) where
  row : Row c (codec_with k f d p)
  unfolding codec_of
  row = subst (Row c) q (row_at Row table rows (λ i. tt) c)

  pub kind-parameter : parameter_of k ≡ p
  kind-parameter = row.5

  is-five : is_names f ≡ true → c ≡ 5
  is-five e = eqb-true c 5 (sym row.3 ∙ e)

  not_five : is_names f ≡ false → c ≡ 5 → ⊥
  not_five e = eqb-false c 5 (sym row.3 ∙ e)

  module _ (m : ℕ) (xs : List ℤ) (h : CanHold k c m xs) where
    parameter-right : parameter_ok p m ≡ true
    parameter-right = by (eqb c 5) refl (leb 9 c && leb c 13) refl row.4
      where
        by : (t : Bool) → eqb c 5 ≡ t → (u : Bool) → (leb 9 c && leb c 13) ≡ u → cond t NameSize (cond u Divisor Unused) ≡ p → parameter_ok p m ≡ true
        by true e u g z = let n = h.size (eqb-true c 5 e) in subst (λ (i : Parameter). parameter_ok i m ≡ true) z (rw (le-leb 1 m n.0, le-leb m name_limit n.1))
        by false e true g z =
            let r = (and-eq-true_iff (leb 9 c) (leb c 13)).0 g in
            let n = h.divisor (leb-true 9 c r.0) (leb-true c 13 r.1) in
            subst (λ (i : Parameter). parameter_ok i m ≡ true) z (rw (le-leb 1 m n.0, le-leb m integer_limit n.1))
        by false e false g z = subst (λ (i : Parameter). parameter_ok i m ≡ true) z refl

    whole-few : (whole_results f m (length xs) ≡ true) × (results f m (length xs) ≤ length_limit)
    whole-few = by f refl
      where
        by : (g : Form) → f ≡ g → (whole_results g m (length xs) ≡ true) × (results g m (length xs) ≤ length_limit)
        by (Plain z) e = (refl, h.few (not_five (ap is_names e)))
        by (Packed z) e = (refl, h.few (not_five (ap is_names e)))
        by (Runs r) e = (refl, h.few (not_five (ap is_names e)))
        by Names e =
            let five = is-five (ap is_names e) in
            let n = h.names five in
            let z = (h.size five).0 in
            (rw n.1 (eq-eqb (n.0 * m % m) 0 (mul-mod_left n.0 m)), rw (n.1, mul-div_cancel n.0 {n = m} z) n.2)

    right-numbers : allowed f m xs ≡ true
    right-numbers = (and-eq-true_iff (all_in (range_of f) xs) (padded f m xs)).1 (numbers-in (range_of f) c row.1 row.2 xs h.numbers, by f refl)
      where
        by : (g : Form) → f ≡ g → padded g m xs ≡ true
        by (Plain z) e = refl
        by (Packed z) e = refl
        by (Runs r) e = refl
        by Names e =
            let five = is-five (ap is_names e) in
            zero-padded m (h.size five).0 xs (every_map _ (λ (x : ℤ). le_z (pos 0) x ≡ true) (not_negative c five) xs h.numbers) (h.padded five)

    held-encoded : Encoded (Only k) c m xs (header_bytes c (results f m (length xs)) (used p m) ++ payload_of f d xs)
    held-encoded =
        record {
          kind = k;
          form = f;
          delta = d;
          parameter = p;
          known = q;
          suited = eq-eqb (kind_tag k) (kind_tag k) refl;
          parameter-right = parameter-right;
          whole = whole-few.0;
          few = whole-few.1;
          held = right-numbers;
          built = refl;
        }

  module _ (m : ℕ) (xs : List ℤ) (ok : parameter_ok p m ≡ true) (whole : whole_results f m (length xs) ≡ true) (few : results f m (length xs) ≤ length_limit) (held : allowed f m xs ≡ true) where
    -- the parameter of a codec that is told by its number
    parameter-is : {t : Bool} {u : Bool} → eqb c 5 ≡ t → (leb 9 c && leb c 13) ≡ u → parameter_ok (cond t NameSize (cond u Divisor Unused)) m ≡ true
    parameter-is e g = rw (← e, ← g, row.4) ok

    in-range : Every (λ (x : ℤ). (least_by c ≤ℤ x) × (x ≤ℤ most_by c)) xs
    in-range = in-numbers (range_of f) c row.1 row.2 xs ((and-eq-true_iff (all_in (range_of f) xs) (padded f m xs)).0 held).0

    sized : c ≡ 5 → (1 ≤ m) × (m ≤ name_limit)
    sized e = let r = (and-eq-true_iff (leb 1 m) (leb m name_limit)).0 (parameter-is (eq-eqb c 5 e) refl) in (leb-true 1 m r.0, leb-true m name_limit r.1)

    divided : 9 ≤ c → c ≤ 13 → (1 ≤ m) × (m ≤ integer_limit)
    divided a b =
        let n : c ≡ 5 → ⊥ = λ (e : c ≡ 5). omega arith in
        let r = (and-eq-true_iff (leb 1 m) (leb m integer_limit)).0 (parameter-is {u = true} (ne_eqb c 5 n) (rw (le-leb 9 c a, le-leb c 13 b))) in
        (leb-true 1 m r.0, leb-true m integer_limit r.1)

    encoded-held : CanHold k c m xs
    encoded-held = by f refl
      where
        other : (g : Form) → f ≡ g → is_names g ≡ false → results g m (length xs) ≡ length xs → CanHold k c m xs
        other g e n r =
            let five = not_five (ap is_names e ∙ n) in
            record {
              codec = row.0;
              size = sized;
              names = λ z. absurd (five z);
              few = λ z. rw r at (rw e at few);
              divisor = divided;
              numbers = in-range;
              padded = λ z. absurd (five z);
            }

        by : (g : Form) → f ≡ g → CanHold k c m xs
        by (Plain z) e = other (Plain z) e refl refl
        by (Packed z) e = other (Packed z) e refl refl
        by (Runs r) e = other (Runs r) e refl refl
        by Names e =
            let five = is-five (ap is_names e) in
            let w : length xs % m ≡ 0 = eqb-true (length xs % m) 0 (rw e at whole) in
            let p = ((and-eq-true_iff (all_in (range_of f) xs) (padded f m xs)).0 held).1 in
            record {
              codec = row.0;
              size = sized;
              names = λ z. (length xs / m, omega (arith, div-add-mod' (length xs) m), rw e at few);
              few = λ z. absurd (z five);
              divisor = divided;
              numbers = in-range;
              padded = λ z. padded-zero m (sized five).0 xs (every_map _ (λ (x : ℤ). le_z (pos 0) x ≡ true) (not_negative c five) xs in-range) (rw e at p);
            }

-- what is encoded the codec can hold
encode-held : (w : Wanted) (c m : ℕ) (xs : List ℤ) (b : List ℕ) (r : Encoded w c m xs b) → CanHold r.kind c m xs
encode-held w c m xs b r = encoded-held r.kind r.form r.delta r.parameter c r.known m xs r.parameter-right r.whole r.few r.held

-- an encoder succeeds exactly for the columns that its codec can hold
pub encode-exactly : (k : Kind) (c m : ℕ) (xs : List ℤ) → ((b : List ℕ) × (encode (Only k) c m xs ≡ bytes b)) ↔ CanHold k c m xs
encode-exactly k c m xs = (there, back)
  where
    there : (b : List ℕ) × (encode (Only k) c m xs ≡ bytes b) → CanHold k c m xs
    there h =
        let r = encode-rules (Only k) c m xs h.0 h.1 in
        subst (λ (i : Kind). CanHold i c m xs) (sym (same_kind k r.kind r.suited)) (encode-held (Only k) c m xs h.0 r)

    back : CanHold k c m xs → (b : List ℕ) × (encode (Only k) c m xs ≡ bytes b)
    back h =
        let t = known_as k (codec_of c) (each_at (λ (i : ℕ). OfKind k (codec_of i)) (codecs_of k) c (kinds k) h.codec) in
        let b = header_bytes c (results t.0 m (length xs)) (used t.2 m) ++ payload_of t.0 t.1 xs in
        (b, encode-kept (Only k) c m xs b (held-encoded k t.0 t.1 t.2 c t.3 m xs h))

-- whatever bytes decode to is held by their codec
pub decode-held : (w : Wanted) (s : List ℕ) (k : Kind) (m : ℕ) (xs : List ℤ) → decode w s ≡ column k m xs → CanHold k (unsigned_at 4 s 0) m xs
decode-held w s k m xs e =
    let r = decode-rules w s k m xs e in
    let b = header_bytes (unsigned_at 4 s 0) (results r.form m (length xs)) (used r.parameter m) ++ payload_of r.form r.delta xs in
    let z = decoded-encoded w s k m xs r b refl in
    let j = (same_codec (sym z.known ∙ r.known)).0 in
    subst (λ (i : Kind). CanHold i (unsigned_at 4 s 0) m xs) j (encode-held w (unsigned_at 4 s 0) m xs b z)

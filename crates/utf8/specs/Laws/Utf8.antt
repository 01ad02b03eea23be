-- `is_utf8` says yes exactly for UTF-8. A lead byte has one of eight rows, RFC 3629's table by its ABNF, and in each row the
-- number that the bytes hold is a scalar value in its shortest form exactly when the second byte is in the row's range. Assumes nothing.
use Rattle.std.specs.Prelude.{◌≡◌, refl, Bool, true, false, ◌&&◌, List, [], ◌∷◌, ◌++◌, ◌⊎◌, ◌≢◌, ◌↔◌, ℕ, zero, suc, ◌+◌, ◌-◌, ◌*◌, ◌/◌, ◌<◌, ◌≤◌, ltb, leb}
use Rattle.std.proofs.Common.{sym, ap, ◌∙◌, inl, inr, ⊎_elim, arith, lt-ltb, le-ltb, le-leb, eqb-true, ltb-true, ltb-false, leb-true}
use Rattle.std.proofs.lemmas.Bool.{false≢true}
use Rattle.numbers.specs.Ranges.{within}
use Rattle.utf8.specs.Utf8.{Scalar, Scalars, continuation, encode, encode_all, Utf8}
use Rattle.utf8.specs.Check.{is_lead, following, lowest, highest, due, is_utf8}
use Rattle.utf8.specs.Laws.Check.{is_lead-one, is_lead-more, following-one, following-two, following-three, following-four, lowest-plain, highest-plain, due-zero}

-- n without its last k digits of six bits
abbrev shift : ℕ → ℕ → ℕ
shift zero n = n
shift (suc k) n = shift k n / 64

-- the last k digits of n as continuation bytes
abbrev tail : ℕ → ℕ → List ℕ
tail zero n = []
tail (suc k) n = continuation (shift k n) ∷ tail k n

-- the lead byte with k bytes after it whose own bits are v
abbrev first : ℕ → ℕ → ℕ
first zero v = v
first (suc zero) v = 0xc0 + v
first (suc (suc zero)) v = 0xe0 + v
first (suc (suc (suc k))) v = 0xf0 + v

-- the second byte of n's encoding in k + 1 bytes, if there is one, is within lo and hi
abbrev Within : ℕ → ℕ → ℕ → ℕ → Type 0
Within zero lo hi n = Unit {0}
Within (suc k) lo hi n = (lo ≤ continuation (shift k n)) × (continuation (shift k n) ≤ hi)

-- a lead byte, how many bytes follow it, and the range of the first of them
data Row : ℕ → ℕ → ℕ → ℕ → Type 0 where
  one : {b : ℕ} → b < 0x80 → Row b 0 0x80 0xbf
  two : {b : ℕ} → 0xc2 ≤ b → b < 0xe0 → Row b 1 0x80 0xbf
  three-first : {b : ℕ} → b ≡ 0xe0 → Row b 2 0xa0 0xbf
  three : {b : ℕ} → 0xe1 ≤ b → b < 0xf0 → b ≢ 0xed → Row b 2 0x80 0xbf
  three-surrogate : {b : ℕ} → b ≡ 0xed → Row b 2 0x80 0x9f
  four-first : {b : ℕ} → b ≡ 0xf0 → Row b 3 0x90 0xbf
  four : {b : ℕ} → 0xf1 ≤ b → b < 0xf4 → Row b 3 0x80 0xbf
  four-last : {b : ℕ} → b ≡ 0xf4 → Row b 3 0x80 0x8f

-- what the check's tests say of a byte, which a row settles
record Tests (b k lo hi : ℕ) : Type 0 where
  lead : is_lead b ≡ true
  more : following b ≡ k
  low : lowest b ≡ lo
  high : highest b ≡ hi

-- a number is below another or not
split : (a b : ℕ) → (a < b) ⊎ (b ≤ a)
split a b = go (ltb a b) refl
  where
    go : (t : Bool) → ltb a b ≡ t → (a < b) ⊎ (b ≤ a)
    go true e = inl (ltb-true a b e)
    go false e = inr (ltb-false a b e)

-- the tests of a row's byte are the row's numbers
row-tests : {b k lo hi : ℕ} → Row b k lo hi → Tests b k lo hi
unfolding is_lead following lowest highest
row-tests {b} (one h) =
    record { lead = is_lead-one b h; more = following-one b h; low = lowest-plain b (omega arith) (omega arith); high = highest-plain b (omega arith) (omega arith) }
row-tests {b} (two l h) =
    record {
      lead = is_lead-more b l (omega arith);
      more = following-two b (omega arith) h;
      low = lowest-plain b (omega arith) (omega arith);
      high = highest-plain b (omega arith) (omega arith);
    }
row-tests {b} (three l h p) =
    record {
      lead = is_lead-more b (omega arith) (omega arith);
      more = following-three b (omega arith) h;
      low = lowest-plain b (omega arith) (omega arith);
      high = highest-plain b p (omega arith);
    }
row-tests {b} (four l h) =
    record {
      lead = is_lead-more b (omega arith) (omega arith);
      more = following-four b (omega arith);
      low = lowest-plain b (omega arith) (omega arith);
      high = highest-plain b (omega arith) (omega arith);
    }
row-tests (three-first e) = rw e (record { lead = refl; more = refl; low = refl; high = refl })
row-tests (three-surrogate e) = rw e (record { lead = refl; more = refl; low = refl; high = refl })
row-tests (four-first e) = rw e (record { lead = refl; more = refl; low = refl; high = refl })
row-tests (four-last e) = rw e (record { lead = refl; more = refl; low = refl; high = refl })

-- the encoding by the size of n
encode_one : (n : ℕ) → n < 0x80 → encode n ≡ n ∷ []
unfolding encode
encode_one n h = simp (lt-ltb n 0x80 h)

encode-two : (n : ℕ) → 0x80 ≤ n → n < 0x800 → encode n ≡ (0xc0 + n / 64) ∷ tail 1 n
unfolding encode
encode-two n l h = simp (le-ltb n 0x80 l, lt-ltb n 0x800 h)

encode-three : (n : ℕ) → 0x800 ≤ n → n < 0x10000 → encode n ≡ (0xe0 + n / 64 / 64) ∷ tail 2 n
unfolding encode
encode-three n l h = simp (le-ltb n 0x80 (omega arith), le-ltb n 0x800 l, lt-ltb n 0x10000 h)

encode-four : (n : ℕ) → 0x10000 ≤ n → encode n ≡ (0xf0 + n / 64 / 64 / 64) ∷ tail 3 n
unfolding encode
encode-four n l = simp (le-ltb n 0x80 (omega arith), le-ltb n 0x800 (omega arith), le-ltb n 0x10000 l)

-- a number whose bytes fit a row is a scalar value, and they are its encoding
row-scalar : {b k lo hi : ℕ} → Row b k lo hi → (n : ℕ) → b ≡ first k (shift k n) → Within k lo hi n → Scalar n × (encode n ≡ first k (shift k n) ∷ tail k n)
row-scalar (one h) n e w = (record { at_most = omega arith; no_surrogate = inl (omega arith) }, encode_one n (omega arith))
row-scalar (two l h) n e w = (record { at_most = omega arith; no_surrogate = inl (omega arith) }, encode-two n (omega arith) (omega arith))
row-scalar (three-first b) n e w = (record { at_most = omega arith; no_surrogate = inl (omega arith) }, encode-three n (omega arith) (omega arith))
row-scalar {b} (three l h p) n e w = (
  record { at_most = omega arith; no_surrogate = ⊎_elim (λ x. inl (omega arith)) (λ x. inr (omega arith)) (split b 0xed) },
  encode-three n (omega arith) (omega arith),
)
row-scalar (three-surrogate b) n e w = (record { at_most = omega arith; no_surrogate = inl (omega arith) }, encode-three n (omega arith) (omega arith))
row-scalar (four-first b) n e w = (record { at_most = omega arith; no_surrogate = inr (omega arith) }, encode-four n (omega arith))
row-scalar (four l h) n e w = (record { at_most = omega arith; no_surrogate = inr (omega arith) }, encode-four n (omega arith))
row-scalar (four-last b) n e w = (record { at_most = omega arith; no_surrogate = inr (omega arith) }, encode-four n (omega arith))

-- a scalar value's encoding in k + 1 bytes, by the row of its lead byte
record Coded (n : ℕ) : Type 0 where
  more : ℕ
  lo : ℕ
  hi : ℕ
  row : Row (first more (shift more n)) more lo hi
  range : Within more lo hi n
  bytes : encode n ≡ first more (shift more n) ∷ tail more n

coded : (k lo hi n : ℕ) → Row (first k (shift k n)) k lo hi → Within k lo hi n → encode n ≡ first k (shift k n) ∷ tail k n → Coded n
coded k lo hi n r w e = record { more = k; lo = lo; hi = hi; row = r; range = w; bytes = e }

coded-three : (n : ℕ) → Scalar n → 0x800 ≤ n → n < 0x10000 → Coded n
coded-three n u l h =
    ⊎_elim (λ a. coded 2 0xa0 0xbf n (three-first (omega arith)) (omega arith) (encode-three n l h))
    (λ a.
    ⊎_elim (λ b. coded 2 0x80 0xbf n (three (omega arith) (omega arith) (omega arith)) (omega arith) (encode-three n l h))
    (λ b.
    ⊎_elim (λ c. coded 2 0x80 0x9f n (three-surrogate (omega arith)) (omega arith) (encode-three n l h))
    (λ c. coded 2 0x80 0xbf n (three (omega arith) (omega arith) (omega arith)) (omega arith) (encode-three n l h))
    u.no_surrogate)
    (split n 0xd000))
    (split n 0x1000)

coded-four : (n : ℕ) → Scalar n → 0x10000 ≤ n → Coded n
coded-four n u l =
    ⊎_elim (λ a. coded 3 0x90 0xbf n (four-first (omega arith)) (omega arith) (encode-four n l))
    (λ a.
    ⊎_elim (λ b. coded 3 0x80 0xbf n (four (omega arith) (omega arith)) (omega arith) (encode-four n l))
    (λ b. coded 3 0x80 0x8f n (four-last (omega arith)) (omega arith) (encode-four n l))
    (split n 0x100000))
    (split n 0x40000)

-- each scalar value has such a row
scalar-coded : (n : ℕ) → Scalar n → Coded n
scalar-coded n u =
    ⊎_elim (λ a. coded 0 0x80 0xbf n (one a) tt (encode_one n a))
    (λ a.
    ⊎_elim (λ b. coded 1 0x80 0xbf n (two (omega arith) (omega arith)) (omega arith) (encode-two n a b))
    (λ b. ⊎_elim (coded-three n u b) (coded-four n u) (split n 0x10000))
    (split n 0x800))
    (split n 0x80)

-- a lead byte, its row and its own bits
record Led (b : ℕ) : Type 0 where
  more : ℕ
  lo : ℕ
  hi : ℕ
  bits : ℕ
  row : Row b more lo hi
  lead : b ≡ first more bits

led : (k lo hi v : ℕ) {b : ℕ} → Row b k lo hi → b ≡ first k v → Led b
led k lo hi v r e = record { more = k; lo = lo; hi = hi; bits = v; row = r; lead = e }

led-three : (b : ℕ) → 0xe0 ≤ b → b < 0xf0 → Led b
led-three b l h =
    ⊎_elim (λ x. led 2 0xa0 0xbf (b - 0xe0) (three-first (omega arith)) (omega arith))
    (λ x.
    ⊎_elim (λ y. led 2 0x80 0xbf (b - 0xe0) (three x h (omega arith)) (omega arith))
    (λ y.
    ⊎_elim (λ z. led 2 0x80 0x9f (b - 0xe0) (three-surrogate (omega arith)) (omega arith))
    (λ z. led 2 0x80 0xbf (b - 0xe0) (three x h (omega arith)) (omega arith))
    (split b 0xee))
    (split b 0xed))
    (split b 0xe1)

led-four : (b : ℕ) → 0xf0 ≤ b → b ≤ 0xf4 → Led b
led-four b l h =
    ⊎_elim (λ x. led 3 0x90 0xbf (b - 0xf0) (four-first (omega arith)) (omega arith))
    (λ x.
    ⊎_elim (λ y. led 3 0x80 0xbf (b - 0xf0) (four x y) (omega arith))
    (λ y. led 3 0x80 0x8f (b - 0xf0) (four-last (omega arith)) (omega arith))
    (split b 0xf4))
    (split b 0xf1)

and_split : (a b : Bool) → (a && b) ≡ true → (a ≡ true) × (b ≡ true)
and_split true b e = (refl, e)
and_split false b e = (e, absurd (false≢true e))

-- each byte that starts a character has a row
lead-led : (b : ℕ) → is_lead b ≡ true → Led b
unfolding is_lead
lead-led b t =
    ⊎_elim (λ x. led 0 0x80 0xbf b (one x) refl)
    (λ x.
    let p = and_split (leb 0xc2 b) (leb b 0xf4) (rw (le-ltb b 0x80 x) at t) in
    let l = leb-true 0xc2 b p.0 in
    let h = leb-true b 0xf4 p.1 in
    ⊎_elim (λ y. led 1 0x80 0xbf (b - 0xc0) (two l y) (omega arith))
    (λ y. ⊎_elim (led-three b y) (λ z. led-four b z h) (split b 0xf0))
    (split b 0xe0))
    (split b 0x80)

-- a row's range lies within that of continuation bytes
row-range : {b k lo hi : ℕ} → Row b k lo hi → (0x80 ≤ lo) × (hi ≤ 0xbf)
row-range (one h) = omega arith
row-range (two l h) = omega arith
row-range (three-first e) = omega arith
row-range (three l h p) = omega arith
row-range (three-surrogate e) = omega arith
row-range (four-first e) = omega arith
row-range (four l h) = omega arith
row-range (four-last e) = omega arith

due-tests : {b k lo hi : ℕ} → Tests b k lo hi → (s : List ℕ) → due (following b) (lowest b) (highest b) s ≡ due k lo hi s
due-tests q s = rw (q.more, q.low, q.high)

-- with k bytes due, the bytes are the last k digits of a number, whose other bits are v, and then encodings
record Rest (k v lo hi : ℕ) (s : List ℕ) : Type 0 where
  number : ℕ
  scalars : List ℕ
  valid : Scalars scalars
  digits : shift k number ≡ v
  range : Within k lo hi number
  bytes : s ≡ tail k number ++ encode_all scalars

-- one byte more in front: a lead byte, whose character then joins the scalar values, or a continuation byte, whose digit joins v
rest-lead : {b : ℕ} (d : Led b) {s : List ℕ} (v lo hi : ℕ) → Rest d.more d.bits d.lo d.hi s → Rest 0 v lo hi (b ∷ s)
unfolding encode_all
rest-lead d v lo hi r =
    let e = d.lead ∙ ap (first d.more) (sym r.digits) in
    let n = row-scalar d.row r.number e r.range in
    record {
      number = v;
      scalars = r.number ∷ r.scalars;
      valid = (n.0, r.valid);
      digits = refl;
      range = tt;
      bytes = rw n.1 (cc (e, r.bytes));
    }

rest_more : {b k v lo hi : ℕ} {s : List ℕ} → 0x80 ≤ lo → hi ≤ 0xbf → lo ≤ b → b ≤ hi → Rest k (v * 64 + (b - 0x80)) 0x80 0xbf s → Rest (suc k) v lo hi (b ∷ s)
rest_more {b} {k} l h x y r =
    let e : b ≡ continuation (shift k r.number) = omega (arith, r.digits) in
    record {
      number = r.number;
      scalars = r.scalars;
      valid = r.valid;
      digits = omega (arith, r.digits);
      range = omega arith;
      bytes = cc (e, r.bytes);
    }

within-bounds : {lo hi b : ℕ} → within lo hi b ≡ true → (lo ≤ b) × (b ≤ hi)
within-bounds {lo} {hi} {b} t =
    let p = and_split (leb lo b) (leb b hi) t in
    (leb-true lo b p.0, leb-true b hi p.1)

-- where the check says yes, there are such a number and scalar values
sound : (s : List ℕ) (k v lo hi : ℕ) → 0x80 ≤ lo → hi ≤ 0xbf → due k lo hi s ≡ true → Rest k v lo hi s
unfolding due encode_all
sound [] zero v lo hi l h t = record { number = v; scalars = []; valid = tt; digits = refl; range = tt; bytes = refl }
sound [] (suc k) v lo hi l h t = absurd (omega (arith, eqb-true (suc k) 0 t))
sound (b ∷ s) zero v lo hi l h t =
    let p = and_split (is_lead b) _ t in
    let d = lead-led b p.0 in
    let g = row-range d.row in
    rest-lead d v lo hi (sound s d.more d.bits d.lo d.hi g.0 g.1 (sym (due-tests (row-tests d.row) s) ∙ p.1))
sound (b ∷ s) (suc k) v lo hi l h t =
    let p = and_split (within lo hi b) _ t in
    let g = within-bounds p.0 in
    rest_more l h g.0 g.1 (sound s k (v * 64 + (b - 0x80)) 0x80 0xbf (omega arith) (omega arith) p.1)

within-plain : (k n : ℕ) → Within k 0x80 0xbf n
within-plain zero n = tt
within-plain (suc k) n = omega arith

-- the check passes over the continuation bytes of a number
due-tail : (k lo hi n : ℕ) (s : List ℕ) → Within k lo hi n → due k lo hi (tail k n ++ s) ≡ is_utf8 s
unfolding due
due-tail zero lo hi n s w = due-zero lo hi s
due-tail (suc k) lo hi n s w =
    simp (le-leb lo (continuation (shift k n)) w.0, le-leb (continuation (shift k n)) hi w.1) (due-tail k 0x80 0xbf n s (within-plain k n))

-- the check says yes for encodings
complete : (ns : List ℕ) → Scalars ns → is_utf8 (encode_all ns) ≡ true
unfolding due encode_all
complete [] u = refl
complete (n ∷ ns) u =
    let d = scalar-coded n u.0 in
    let q = row-tests d.row in
    rw d.bytes (simp (q.lead, q.more, q.low, q.high) (due-tail d.more d.lo d.hi n (encode_all ns) d.range ∙ complete ns u.1))

-- the two halves of `exactly`
pub utf8-is_utf8 : {bytes : List ℕ} → Utf8 bytes → is_utf8 bytes ≡ true
utf8-is_utf8 u = ap is_utf8 u.encoded ∙ complete u.scalars u.valid

pub is_utf8-utf8 : (bytes : List ℕ) → is_utf8 bytes ≡ true → Utf8 bytes
is_utf8-utf8 bytes t =
    let r = sound bytes 0 0 0x80 0xbf (omega arith) (omega arith) t in
    record { scalars = r.scalars; valid = r.valid; encoded = r.bytes }

-- the check says yes exactly for UTF-8, for all lists of numbers
pub exactly : (bytes : List ℕ) → (is_utf8 bytes ≡ true) ↔ Utf8 bytes
exactly bytes = (is_utf8-utf8 bytes, utf8-is_utf8)

-- so does any answer that equals it
pub decides : {bytes : List ℕ} {r : Bool} → r ≡ is_utf8 bytes → (r ≡ true) ↔ Utf8 bytes
decides e = rw e (exactly _)

-- Lines read one after another: what is read stands there, and what stands there is read. Assumes nothing.
use Rattle.std.specs.Prelude.{◌≡◌, Bool, false, cond, List, [], ◌∷◌, ◌++◌, eqb, ltb, leb, get_or}
use Rattle.std.proofs.Math.Path.{refl, sym, ap}
use Rattle.std.proofs.Common.{◌∙◌, append_assoc, arith, length-append, drop_of_length-le, drop-cons, drop-drop}
use Rattle.std.proofs.Math.Bool.{true}
use Prim.Native.Nat.{ℕ, zero, suc, ◌+◌, ◌*◌, ◌-◌, ◌/◌, ◌%◌, ◌<◌, ◌≤◌}
use Rattle.std.proofs.Math.Numerals.{add-one}
use Rattle.std.proofs.Math.ListN.{length, drop}
use Rattle.std.proofs.Math.Seq.{drop_at}
use borrow.Author.Tests.{eqb-true, eq-eqb, ne_eqb, leb-true, le-leb, ltb-true, ltb-false}
use Rattle.numbers.specs.Laws.Tests.{and_left, and_right}
use Rattle.numbers.specs.Ranges.{within}
use Rattle.text.specs.Equal.{begins}
use Rattle.text.specs.Decimal.{glyph, is_digit, decimal}
use Rattle.text.specs.Laws.Equal.{begins-append, begins-true}
use Rattle.text.specs.Laws.Decimal.{glyph-digit, decimal-one, decimal-more, decimal_digit}
use Rattle.receipt.specs.declared.Line.{Line}
use Rattle.receipt.specs.Laws.Rules.{Small}
use Rattle.receipt.specs.Steps.{no_line, takes_digit, digits_at, number_at, line_at, numbers_at, end_at}

-- A number up to a line feed

-- a byte that is a digit
pub digit-least : (b : ℕ) → is_digit b ≡ true → 48 ≤ b
digit-least b h = leb-true 48 b (and_left (leb 48 b) (leb b 57) h)

pub digit-most : (b : ℕ) → is_digit b ≡ true → b ≤ 57
digit-most b h = leb-true b 57 (and_right (leb 48 b) (leb b 57) h)

-- a byte that can follow the digits of a number
pub takes-least : (n b : ℕ) → takes_digit n b ≡ true → 48 ≤ b
takes-least n b t = digit-least b (and_left (is_digit b) (within 1 99999999 n) t)

pub takes-most : (n b : ℕ) → takes_digit n b ≡ true → b ≤ 57
takes-most n b t = digit-most b (and_left (is_digit b) (within 1 99999999 n) t)

takes-from : (n b : ℕ) → takes_digit n b ≡ true → 1 ≤ n
takes-from n b t = leb-true 1 n (and_left (leb 1 n) (leb n 99999999) (and_right (is_digit b) (within 1 99999999 n) t))

pub takes-to : (n b : ℕ) → takes_digit n b ≡ true → n ≤ 99999999
takes-to n b t = leb-true n 99999999 (and_right (leb 1 n) (leb n 99999999) (and_right (is_digit b) (within 1 99999999 n) t))

-- the digits from place i on: one byte at a time
module _ (s : List ℕ) (n i : ℕ) where
  pub digits-none : length s ≤ i → no_line ≡ digits_at (drop i s) n i
  unfolding digits_at
  digits-none h = rw (drop_of_length-le s h)

  module _ (h : i < length s) where
    pub digits-feed : get_or s i 0 ≡ 0x0a → record { number = n; end = i + 1 } ≡ digits_at (drop i s) n i
    unfolding digits_at
    digits-feed e = rw (drop-cons s i 0 h, eq-eqb (get_or s i 0) 0x0a e, add-one i)

    pub digits-other : (get_or s i 0 ≡ 0x0a → ⊥) → takes_digit n (get_or s i 0) ≡ false → no_line ≡ digits_at (drop i s) n i
    unfolding digits_at
    digits-other e t = rw (drop-cons s i 0 h, ne_eqb (get_or s i 0) 0x0a e, t)

    pub digits-next : (get_or s i 0 ≡ 0x0a → ⊥) → takes_digit n (get_or s i 0) ≡ true → digits_at (drop (i + 1) s) (n * 10 + (get_or s i 0 - 48)) (i + 1) ≡ digits_at (drop i s) n i
    unfolding digits_at
    digits-next e t = rw (drop-cons s i 0 h, ne_eqb (get_or s i 0) 0x0a e, t, add-one i)

    -- a number that begins at place i

    pub number-begins : is_digit (get_or s i 0) ≡ true → digits_at (drop (i + 1) s) (get_or s i 0 - 48) (i + 1) ≡ number_at (drop i s) i
    unfolding number_at
    number-begins t = rw (drop-cons s i 0 h, t, add-one i)

    pub number-other : is_digit (get_or s i 0) ≡ false → no_line ≡ number_at (drop i s) i
    unfolding number_at
    number-other t = rw (drop-cons s i 0 h, t)

-- no number begins past the end
pub number-none : (s : List ℕ) (i : ℕ) → length s ≤ i → no_line ≡ number_at (drop i s) i
unfolding number_at
number-none s i h = rw (drop_of_length-le s h)

-- the line l goes on at place i of s after digits that say n: they and the digits there are its number, and a line feed comes next
record Ended (s : List ℕ) (n i : ℕ) (l : Line) : Type 0 where
  rest : List ℕ
  text : decimal n ++ s ≡ decimal l.number ++ (0x0a ∷ rest)
  place : l.end + length (decimal n) ≡ i + length (decimal l.number) + 1

-- a digit more
ended-digit : (b n i : ℕ) (s : List ℕ) (l : Line) → takes_digit n b ≡ true → Ended s (n * 10 + (b - 48)) (suc i) l → Ended (b ∷ s) n i l
ended-digit b n i s l t e =
    let d : decimal (n * 10 + (b - 48)) ≡ decimal n ++ (b ∷ []) = decimal_digit n b (takes-from n b t) (takes-to n b t) (takes-least n b t) (takes-most n b t) in
    let m : length (decimal (n * 10 + (b - 48))) ≡ length (decimal n) + 1 = ap length d ∙ length-append (decimal n) (b ∷ []) in
    record {
      rest = e.rest;
      text = sym (append_assoc (decimal n) (b ∷ []) s) ∙ ap (λ (x : List ℕ). x ++ s) (sym d) ∙ e.text;
      place = omega (arith, e.place);
    }

digits-ended : (s : List ℕ) (n i : ℕ) → Small (digits_at s n i).number → Ended s n i (digits_at s n i)
unfolding digits_at
digits-ended [] n i h = absurd (omega arith)
digits-ended (b ∷ s) n i h = go (eqb b 0x0a) refl (takes_digit n b) refl h (digits-ended s (n * 10 + (b - 48)) (suc i))
  where
    next : Line
    next = digits_at s (n * 10 + (b - 48)) (suc i)

    go : (f : Bool) → eqb b 0x0a ≡ f → (t : Bool) → takes_digit n b ≡ t → Small (cond f (record { number = n; end = suc i }) (cond t next no_line)).number
        → (Small next.number → Ended s (n * 10 + (b - 48)) (suc i) next)
        → Ended (b ∷ s) n i (cond f (record { number = n; end = suc i }) (cond t next no_line))
    go true e t g m q = record { rest = s; text = ap (λ (x : ℕ). decimal n ++ (x ∷ s)) (eqb-true b 0x0a e); place = omega arith }
    go false e true g m q = ended-digit b n i s next g (q m)
    go false e false g m q = absurd (omega arith)

-- the number of a line that stands at the front of s
record Stands (s : List ℕ) (i : ℕ) (l : Line) : Type 0 where
  rest : List ℕ
  text : s ≡ decimal l.number ++ (0x0a ∷ rest)
  place : l.end ≡ i + length (decimal l.number) + 1

-- the first digit
stands-digit : (b i : ℕ) (s : List ℕ) (l : Line) → is_digit b ≡ true → Ended s (b - 48) (suc i) l → Stands (b ∷ s) i l
stands-digit b i s l t e =
    let low = digit-least b t in
    let high = digit-most b t in
    let same : 48 + (b - 48) ≡ b = omega arith in
    let d : decimal (b - 48) ≡ b ∷ [] = decimal-one (b - 48) (omega arith) ∙ ap (λ (x : ℕ). x ∷ []) (glyph-digit (b - 48) (omega arith) ∙ same) in
    let m : length (decimal (b - 48)) ≡ 1 = ap length d in
    record { rest = e.rest; text = ap (λ (x : List ℕ). x ++ s) (sym d) ∙ e.text; place = omega (arith, e.place) }

number-stands : (s : List ℕ) (i : ℕ) → Small (number_at s i).number → Stands s i (number_at s i)
unfolding number_at
number-stands [] i h = absurd (omega arith)
number-stands (b ∷ s) i h = go (is_digit b) refl h
  where
    go : (t : Bool) → is_digit b ≡ t → Small (cond t (digits_at s (b - 48) (suc i)) no_line).number → Stands (b ∷ s) i (cond t (digits_at s (b - 48) (suc i)) no_line)
    go true e m = stands-digit b i s (digits_at s (b - 48) (suc i)) e (digits-ended s (b - 48) (suc i) m)
    go false e m = absurd (omega arith)

-- a digit that follows is read
digit-read : (d n i : ℕ) (s : List ℕ) → d < 10 → 1 ≤ n → n ≤ 99999999 → digits_at (glyph d ∷ s) n i ≡ digits_at s (n * 10 + d) (suc i)
unfolding digits_at
digit-read d n i s h l m =
    let e : n * 10 + (48 + d - 48) ≡ n * 10 + d = omega arith in
    rw (glyph-digit d h, ne_eqb (48 + d) 0x0a (λ z. omega arith), le-leb 48 (48 + d) (omega arith), le-leb (48 + d) 57 (omega arith), le-leb 1 n l, le-leb n 99999999 m, e)

-- one digit
digits-one-read : (n i : ℕ) (s : List ℕ) → n < 10 → number_at (decimal n ++ s) i ≡ digits_at s n (i + length (decimal n))
unfolding number_at
digits-one-read n i s h =
    let e : 48 + n - 48 ≡ n = omega arith in
    let f : i + 1 ≡ suc i = omega arith in
    rw (decimal-one n h, glyph-digit n h, le-leb 48 (48 + n) (omega arith), le-leb (48 + n) 57 (omega arith), e, f)

-- the digits of a number are read as that number, by the number of a tenth, which is smaller
digits-read : (steps n i : ℕ) (s : List ℕ) → n ≤ steps → Small n → number_at (decimal n ++ s) i ≡ digits_at s n (i + length (decimal n))
digits-read zero n i s h f = digits-one-read n i s (omega arith)
digits-read (suc steps) n i s h f = go (ltb n 10) refl (λ l. digits-read steps (n / 10) i (glyph (n % 10) ∷ s) (omega arith) (omega arith))
  where
    go : (t : Bool) → ltb n 10 ≡ t → (10 ≤ n → number_at (decimal (n / 10) ++ (glyph (n % 10) ∷ s)) i ≡ digits_at (glyph (n % 10) ∷ s) (n / 10) (i + length (decimal (n / 10))))
        → number_at (decimal n ++ s) i ≡ digits_at s n (i + length (decimal n))
    go true e q = digits-one-read n i s (ltb-true n 10 e)
    go false e q =
        let l : 10 ≤ n = ltb-false n 10 e in
        let d = decimal-more n l (omega arith) in
        let whole : n / 10 * 10 + n % 10 ≡ n = omega arith in
        let m : length (decimal n) ≡ length (decimal (n / 10)) + 1 = ap length d ∙ length-append (decimal (n / 10)) (glyph (n % 10) ∷ []) in
        let place : suc (i + length (decimal (n / 10))) ≡ i + length (decimal n) = omega arith in
        ap (λ (x : List ℕ). number_at (x ++ s) i) d
        ∙ ap (λ (x : List ℕ). number_at x i) (append_assoc (decimal (n / 10)) (glyph (n % 10) ∷ []) s)
        ∙ q l
        ∙ digit-read (n % 10) (n / 10) (i + length (decimal (n / 10))) s (omega arith) (omega arith) (omega arith)
        ∙ ap (λ (x : ℕ). digits_at s x (suc (i + length (decimal (n / 10))))) whole
        ∙ ap (digits_at s n) place

feed-read : (n i : ℕ) (s : List ℕ) → digits_at (0x0a ∷ s) n i ≡ record { number = n; end = suc i }
unfolding digits_at
feed-read n i s = refl

number_read : (n i : ℕ) (rest : List ℕ) → Small n → number_at (decimal n ++ (0x0a ∷ rest)) i ≡ record { number = n; end = suc (i + length (decimal n)) }
number_read n i rest f = digits-read n n i (0x0a ∷ rest) (omega arith) f ∙ feed-read n (i + length (decimal n)) rest

-- A line

-- a line by the word that it begins with
abbrev pub line_text : List ℕ → ℕ → List ℕ
line_text word n = word ++ (decimal n ++ (0x0a ∷ []))

-- a line and what follows it, grouped by the word
line-apart : (word : List ℕ) (n : ℕ) (rest : List ℕ) → line_text word n ++ rest ≡ word ++ (decimal n ++ (0x0a ∷ rest))
line-apart word n rest = simp append_assoc

line-length : (word : List ℕ) (n : ℕ) → length (line_text word n) ≡ length word + length (decimal n) + 1
line-length word n = simp length-append (omega arith)

module _ (word s : List ℕ) (at : ℕ) where
  -- the line that is read stands at the place
  pub line-ended : Small (line_at word s at).number
      → (drop at s ≡ line_text word (line_at word s at).number ++ drop (line_at word s at).end s) × ((line_at word s at).end ≡ at + length (line_text word (line_at word s at).number))
  unfolding line_at
  line-ended h = go (begins word (drop at s)) refl h
    where
      there : Line
      there = number_at (drop (at + length word) s) (at + length word)

      go : (t : Bool) → begins word (drop at s) ≡ t → Small (cond t there no_line).number
          → (drop at s ≡ line_text word (cond t there no_line).number ++ drop (cond t there no_line).end s) × ((cond t there no_line).end ≡ at + length (line_text word (cond t there no_line).number))
      go true e m =
          let n = number-stands (drop (at + length word) s) (at + length word) m in
          let place : there.end ≡ at + length (line_text word there.number) = omega (arith, n.place, line-length word there.number) in
          let front : drop at s ≡ word ++ drop (at + length word) s = begins-true word (drop at s) e ∙ ap (λ (x : List ℕ). word ++ x) (drop-drop (length word) at s) in
          let text : drop at s ≡ line_text word there.number ++ n.rest = front ∙ ap (λ (x : List ℕ). word ++ x) n.text ∙ sym (line-apart word there.number n.rest) in
          let rest : drop there.end s ≡ n.rest =
          ap (λ (x : ℕ). drop x s) place
          ∙ sym (drop-drop (length (line_text word there.number)) at s)
          ∙ ap (drop (length (line_text word there.number))) text
          ∙ drop_at (line_text word there.number) n.rest (length (line_text word there.number)) refl in
          (text ∙ ap (λ (x : List ℕ). line_text word there.number ++ x) (sym rest), place)
      go false e m = absurd (omega arith)

  -- the line that stands at the place is read
  pub line_read : (n : ℕ) (rest : List ℕ) → Small n → drop at s ≡ line_text word n ++ rest → line_at word s at ≡ record { number = n; end = at + length (line_text word n) }
  unfolding line_at
  line_read n rest f e =
      let apart : drop at s ≡ word ++ (decimal n ++ (0x0a ∷ rest)) = e ∙ line-apart word n rest in
      let test : begins word (drop at s) ≡ true = ap (begins word) apart ∙ begins-append word (decimal n ++ (0x0a ∷ rest)) in
      let after : drop (at + length word) s ≡ decimal n ++ (0x0a ∷ rest) = sym (drop-drop (length word) at s) ∙ ap (drop (length word)) apart ∙ drop_at word (decimal n ++ (0x0a ∷ rest)) (length word) refl in
      let place : suc (at + length word + length (decimal n)) ≡ at + length (line_text word n) = omega (arith, line-length word n) in
      rw (test, after) (number_read n (at + length word) rest f ∙ ap (λ (x : ℕ). record { number = n; end = x }) place)

-- Lines one after another

-- the text of lines by the words that they begin with, and their numbers
abbrev pub lines_text : List (List ℕ) → List ℕ → List ℕ
lines_text [] ns = []
lines_text (w ∷ ws) [] = []
lines_text (w ∷ ws) (n ∷ ns) = line_text w n ++ lines_text ws ns

-- every number is small
abbrev pub EachSmall : List ℕ → Type 0
EachSmall [] = Unit {0}
EachSmall (n ∷ ns) = Small n × EachSmall ns

-- the lines that are read stand there
pub lines-ended : (ws : List (List ℕ)) (s : List ℕ) (at : ℕ) → EachSmall (numbers_at ws s at)
    → (drop at s ≡ lines_text ws (numbers_at ws s at) ++ drop (end_at ws s at) s) × (end_at ws s at ≡ at + length (lines_text ws (numbers_at ws s at)))
lines-ended [] s at h = (refl, omega arith)
lines-ended (w ∷ ws) s at h =
    let first = line-ended w s at h.0 in
    let more = lines-ended ws s (line_at w s at).end h.1 in
    let line : List ℕ = line_text w (line_at w s at).number in
    let lines : List ℕ = lines_text ws (numbers_at ws s (line_at w s at).end) in (
      first.0 ∙ ap (λ (x : List ℕ). line_text w (line_at w s at).number ++ x) more.0 ∙ sym (append_assoc (line_text w (line_at w s at).number) (lines_text ws (numbers_at ws s (line_at w s at).end)) (drop (end_at (w ∷ ws) s at) s)),
      omega (arith, first.1, more.1, length-append (line_text w (line_at w s at).number) (lines_text ws (numbers_at ws s (line_at w s at).end))),
    )

-- the lines that stand there are read
pub lines-read : (ws : List (List ℕ)) (ns s : List ℕ) (at : ℕ) (rest : List ℕ) → length ws ≡ length ns → EachSmall ns → drop at s ≡ lines_text ws ns ++ rest
    → (numbers_at ws s at ≡ ns) × (end_at ws s at ≡ at + length (lines_text ws ns))
lines-read [] [] s at rest l f e = (refl, omega arith)
lines-read [] (n ∷ ns) s at rest l f e = absurd (omega arith)
lines-read (w ∷ ws) [] s at rest l f e = absurd (omega arith)
lines-read (w ∷ ws) (n ∷ ns) s at rest l f e =
    let line : drop at s ≡ line_text w n ++ (lines_text ws ns ++ rest) = e ∙ append_assoc (line_text w n) (lines_text ws ns) rest in
    let first = line_read w s at n (lines_text ws ns ++ rest) f.0 line in
    let place : (line_at w s at).end ≡ at + length (line_text w n) = ap (λ (x : Line). x.end) first in
    let after : drop (line_at w s at).end s ≡ lines_text ws ns ++ rest =
    ap (λ (x : ℕ). drop x s) place ∙ sym (drop-drop (length (line_text w n)) at s) ∙ ap (drop (length (line_text w n))) line ∙ drop_at (line_text w n) (lines_text ws ns ++ rest) (length (line_text w n)) refl in
    let more = lines-read ws ns s (line_at w s at).end rest (omega arith) f.1 after in (
      ap (λ (x : ℕ). x ∷ numbers_at ws s (line_at w s at).end) (ap (λ (x : Line). x.number) first) ∙ ap (λ (x : List ℕ). n ∷ x) more.0,
      omega (arith, more.1, length-append (line_text w n) (lines_text ws ns)),
    )

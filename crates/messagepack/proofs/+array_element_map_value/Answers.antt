-- A value is walked by its kind, an array and a map by loops whose invariants say that what is left from here on decides, and that the rows of
-- the maps that are open stay. The levels left fall with each array and map.
use Rattle.std.proofs.lemmas.Result.{err_from_is_err_and}
use Rattle.refusal.specs.Outcome.{numbered}
use Rattle.std.proofs.Common.{◌≡◌, ◌⊎◌, inl, inr, ℕ, ◌-◌, Bool, true, false, List, sym, refl, ap, ◌∙◌, pos_of_ne-zero, arith}
use Rattle.std.specs.Prelude.{Result, Ok}
use Rattle.heads.specs.Head.{kind_at, head_at, some_head}
use Rattle.heads.specs.declared.Kind.{Kind}
use Rattle.heads.proofs.Laws.Head.{same-parts}
use Rattle.messagepack.specs.Walk.{value_at}
use Rattle.messagepack.specs.Keys.{Free, KeysWalked, ValueWalked, EntriesNoted, ValueNoted}
use Rattle.messagepack.proofs.Laws.Walk as w
use Rattle.messagepack.proofs.Laws.Quick.{leaf-ends, leaf-refuses}
use Rattle.messagepack.proofs.Laws.Tables.{kept-all, kept_then, walked_as, walked-in, walked_more, noted-as, entries-unnoted, value-unnoted, going-first, going-noted, going-last, going-key, going-value, going_next}
use Rattle.messagepack.proofs.+array_element_map_value.Goals as goal

-- the value

-- an answer that leaves the tables alone
unchanged : {file : List ℕ} {depth : ℕ} {starts prints : List ℕ} {r expected : Result ℕ ℕ} → Free file depth starts prints → r ≡ expected → KeysWalked expected depth starts prints r starts prints
unchanged {depth = depth} x e = record { answer = e; starts-kept = kept-all depth x.starts-long; prints-kept = kept-all depth x.prints-long }

-- is a kind that of a map?
abbrev is_map : Kind → Bool
is_map Kind.Map = true
is_map Kind.Missing = false
is_map Kind.Outside = false
is_map Kind.Unsigned = false
is_map Kind.Signed = false
is_map Kind.Float = false
is_map Kind.Str = false
is_map Kind.Bin = false
is_map Kind.Array = false

-- nothing is noted of a value that is no map
no-map : {file : List ℕ} {depth at : ℕ} {r : Result ℕ ℕ} {starts : List ℕ} (k : Kind) → is_map k ≡ false → kind_at file at ≡ k → ValueNoted file depth at r starts
no-map k f e = record { says = λ n p end m h q. let z : true ≡ false = ap is_map (sym m ∙ e) ∙ f in let y : ◌≡◌ {A = ℕ} 0 1 = cc in absurd (omega arith) }

-- nothing is noted of a signed integer or a float
plain-noted : {file : List ℕ} {depth at : ℕ} {r : Result ℕ ℕ} {starts : List ℕ} {k : Kind} → kind_at file at ≡ k → (k ≡ Kind.Signed) ⊎ (k ≡ Kind.Float) → ValueNoted file depth at r starts
plain-noted e (inl o) = no-map Kind.Signed refl (e ∙ o)
plain-noted e (inr o) = no-map Kind.Float refl (e ∙ o)

-- what is noted of the entries is noted of the map with their head
map-noted : {file : List ℕ} {depth at n p : ℕ} {r : Result ℕ ℕ} {starts : List ℕ} → head_at file at ≡ some_head n p → EntriesNoted file (depth - 1) n p r starts → ValueNoted file depth at r starts
map-noted {n = n} {p = p} g f = record {
  says = λ m q e k h end.
      let same = same-parts (sym h ∙ g) in
      let i : m ≡ n = same.0 in
      let j : q ≡ p = same.1 in
      rw (i, j) (f.says e end);
}

-- a value that is no map, by its kind
plain : {file : List ℕ} {depth at : ℕ} {starts prints : List ℕ} {r : Result ℕ ℕ} (k : Kind) → is_map k ≡ false → Free file depth starts prints → kind_at file at ≡ k → (kind_at file at ≡ k → r ≡ value_at file depth at) → ValueWalked file depth at starts prints r starts prints × ValueNoted file depth at r starts
plain k f x e a = (unchanged x (a e), no-map k f e)

pub array-loop-left-preserved : goal.array-loop-left-preserved
array-loop-left-preserved t c =
    let a = c.args in
    let l = c.loop-left in
    let o = c.value.ensures.walked in
    (kept_then l.invariant.0 o.starts-kept, kept_then l.invariant.1 o.prints-kept, l.invariant.2 ∙ w.many-end (value_at a.file.now a.depth) l.left l.p c.loop-left-test.true (sym o.answer ∙ ap numbered c.in_ok-end.was) ∙ c.leaves-next.ensures.same a.depth)

pub array-returns-in_err-end : goal.array-returns-in_err-end
array-returns-in_err-end t c =
    let a = c.args in
    let l = c.loop-left in
    let o = c.value.ensures.walked in
    let p = err_from_is_err_and c.from_residual.result c.from_residual.ensures.1 in
    record {
      answer = rw (p.1, p.2) (sym (l.invariant.2 ∙ w.many-refused (value_at a.file.now a.depth) l.left l.p c.loop-left-test.true (sym o.answer ∙ ap numbered c.in_err-end.was)));
      starts-kept = kept_then l.invariant.0 o.starts-kept;
      prints-kept = kept_then l.invariant.1 o.prints-kept;
    }

pub array-returns : goal.array-returns
array-returns t c =
    let a = c.args in
    let l = c.loop-left in
    record {
      answer = sym (l.invariant.2 ∙ w.many-none (value_at a.file.now a.depth) l.left l.p c.loop-left-test.false);
      starts-kept = l.invariant.0;
      prints-kept = l.invariant.1;
    }

pub element-returns-in-End : goal.element-returns-in-End
element-returns-in-End t c = unchanged c.requires (leaf-ends _ _ _ (sym c.leaf_at.ensures ∙ ap numbered c.in_ok-end.was ∙ ap Ok c.in-End.is))

pub element-returns-in_err-end : goal.element-returns-in_err-end
element-returns-in_err-end t c =
    let p = err_from_is_err_and c.from_residual.result c.from_residual.ensures.1 in
    unchanged c.requires (rw (p.1, p.2) (leaf-refuses _ _ _ (sym c.leaf_at.ensures ∙ ap numbered c.in_err-end.was)))

pub map-returns-then-n-gt-ENTRY_LIMIT : goal.map-returns-then-n-gt-ENTRY_LIMIT
map-returns-then-n-gt-ENTRY_LIMIT t c = record {
  walked = record {
    answer = sym (w.entries-many _ _ _ _ c.if-n-gt-ENTRY_LIMIT.true);
    starts-kept = kept-all _ c.requires.starts-long;
    prints-kept = kept-all _ c.requires.prints-long;
  };
  noted = entries-unnoted;
}

pub map-loop-row-init : goal.map-loop-row-init
map-loop-row-init t c = going-first c.requires c.if-n-gt-ENTRY_LIMIT.false

pub map-returns-in_err-p : goal.map-returns-in_err-p
map-returns-in_err-p t c =
    let p = err_from_is_err_and c.from_residual.result c.from_residual.ensures.1 in
    record {
      walked = rw (p.1, p.2) (going-key c.loop-row.invariant c.loop-row-test.true (noted-as (ap numbered c.in_err-p.was) c.new_key.ensures));
      noted = rw (p.1, p.2) entries-unnoted;
    }

pub map-returns-in_err-p-2 : goal.map-returns-in_err-p-2
map-returns-in_err-p-2 t c =
    let p = err_from_is_err_and c.from_residual-in_err-p-2.result c.from_residual-in_err-p-2.ensures.1 in
    record {
      walked = rw (p.1, p.2) (going-value c.loop-row.invariant c.loop-row-test.true (noted-as (ap numbered c.in_ok-p.was) c.new_key.ensures) (walked_as (ap numbered c.in_err-p-2.was) c.element.ensures));
      noted = rw (p.1, p.2) entries-unnoted;
    }

pub map-loop-row-preserved : goal.map-loop-row-preserved
map-loop-row-preserved t c =
    going_next c.loop-row.invariant c.loop-row-test.true (noted-as (ap numbered c.in_ok-p.was) c.new_key.ensures) (walked_as (ap numbered c.in_ok-p-2.was) c.element.ensures)

pub map-returns : goal.map-returns
map-returns t c = record { walked = going-last c.loop-row.invariant c.loop-row-test.false; noted = record { says = λ e q. going-noted c.loop-row.invariant c.loop-row-test.false } }

pub value-returns-then-depth-eq0 : goal.value-returns-then-depth-eq0
value-returns-then-depth-eq0 t c =
    let whole = plain Kind.Array refl c.requires (sym (c.kind_at.ensures.rule) ∙ c.in-Array.is) (λ e. sym (w.deep-array _ _ _ c.if-depth-eq0.true e)) in
    record { walked = whole.0; noted = whole.1 }

pub value-returns-then-depth-eq0-2 : goal.value-returns-then-depth-eq0-2
value-returns-then-depth-eq0-2 t c = record { walked = unchanged c.requires (sym (w.deep-map _ _ _ c.if-depth-eq0-2.true (sym (c.kind_at.ensures.rule) ∙ c.in-Map.is))); noted = value-unnoted }

pub value-returns-in-Missing : goal.value-returns-in-Missing
value-returns-in-Missing t c =
    let whole = plain Kind.Missing refl c.requires (sym (c.kind_at.ensures.rule) ∙ c.in-Missing.is) (λ e. sym (w.value-missing _ _ _ e)) in
    record { walked = whole.0; noted = whole.1 }

pub value-returns-in-Outside : goal.value-returns-in-Outside
value-returns-in-Outside t c =
    let whole = plain Kind.Outside refl c.requires (sym (c.kind_at.ensures.rule) ∙ c.in-Outside.is) (λ e. sym (w.value-outside _ _ _ e)) in
    record { walked = whole.0; noted = whole.1 }

pub value-returns-in-Unsigned : goal.value-returns-in-Unsigned
value-returns-in-Unsigned t c =
    let whole = plain Kind.Unsigned refl c.requires (sym (c.kind_at.ensures.rule) ∙ c.in-Unsigned.is) (λ e. c.integer_at.ensures ∙ sym (w.value-unsigned _ _ _ e)) in
    record { walked = whole.0; noted = whole.1 }

pub value-returns-in-Signed : goal.value-returns-in-Signed
value-returns-in-Signed t c =
    let kind = sym (c.kind_at.ensures.rule) in
    record { walked = unchanged c.requires (c.plain_at.ensures ∙ sym (w.value-plain _ _ _ kind c.in-Signed.is)); noted = plain-noted kind c.in-Signed.is }

pub value-returns-in-Bin : goal.value-returns-in-Bin
value-returns-in-Bin t c =
    let whole = plain Kind.Bin refl c.requires (sym (c.kind_at.ensures.rule) ∙ c.in-Bin.is) (λ e. c.binary_at.ensures ∙ sym (w.value-bin _ _ _ e)) in
    record { walked = whole.0; noted = whole.1 }

pub value-returns-in-Str : goal.value-returns-in-Str
value-returns-in-Str t c =
    let whole = plain Kind.Str refl c.requires (sym (c.kind_at.ensures.rule) ∙ c.in-Str.is) (λ e. c.string_at.ensures ∙ sym (w.value-str _ _ _ e)) in
    record { walked = whole.0; noted = whole.1 }

pub value-returns-in-None : goal.value-returns-in-None
value-returns-in-None t c = record { walked = unchanged c.requires (sym (w.array-cut _ _ _ (pos_of_ne-zero c.if-depth-eq0.false) (sym (c.kind_at.ensures.rule) ∙ c.in-Array.is) (sym (c.head_at.ensures.rule) ∙ c.in-None.is))); noted = value-unnoted }

pub value-returns-in-Some : goal.value-returns-in-Some
value-returns-in-Some t c =
    let pos = pos_of_ne-zero c.if-depth-eq0.false in
    let kind = sym (c.kind_at.ensures.rule) ∙ c.in-Array.is in
    record { walked = walked-in (omega arith) (w.array_at _ _ _ pos kind (sym (c.head_at.ensures.rule) ∙ c.in-Some.is)) (walked_more c.array.ensures); noted = no-map Kind.Array refl kind }

pub value-returns-in-None-head_at : goal.value-returns-in-None-head_at
value-returns-in-None-head_at t c = record {
  walked = unchanged c.requires
      (sym (w.map-cut _ _ _ (pos_of_ne-zero c.if-depth-eq0-2.false) (sym (c.kind_at.ensures.rule) ∙ c.in-Map.is) (sym (c.head_at-in-Map.ensures.rule) ∙ c.in-None-head_at.is)));
  noted = value-unnoted;
}

pub value-returns-in-Some-head_at : goal.value-returns-in-Some-head_at
value-returns-in-Some-head_at t c =
    let pos = pos_of_ne-zero c.if-depth-eq0-2.false in
    let head = sym (c.head_at-in-Map.ensures.rule) ∙ c.in-Some-head_at.is in
    record { walked = walked-in (omega arith) (w.map_at _ _ _ pos (sym (c.kind_at.ensures.rule) ∙ c.in-Map.is) head) c.map.ensures.walked; noted = map-noted head c.map.ensures.noted }

-- What a plan that is not refused kept, and an encoding that gives bytes, rule by rule. Assumes nothing.
use Rattle.std.specs.Prelude.{Option, Some, None, Result, Ok, Err, ◌≡◌, refl, Bool, true, false, cond, List, ◌++◌, ℕ, zero, suc, ◌≤◌, length, ℤ, leb}
use Rattle.std.proofs.Common.{sym, ap, ap₂, ◌∙◌, arith}
use borrow.Author.Tests.{leb-true, le-leb}
use Rattle.refusal.specs.Table.{codec_unknown, header_range, number_not_allowed}
use Rattle.refusal.specs.First.{first}
use Rattle.refusal.proofs.Laws.First.{unless_holds, first-each}
use Rattle.steps.specs.declared.Form.{Form}
use Rattle.steps.specs.Payload.{allowed}
use Rattle.columns.specs.declared.Kind.{Kind}
use Rattle.columns.specs.declared.Wanted.{Wanted}
use Rattle.columns.specs.declared.Parameter.{Parameter}
use Rattle.columns.specs.declared.Codec.{Codec}
use Rattle.columns.specs.declared.Plan.{Plan}
use Rattle.columns.specs.Table.{codec_with, codec_of, suits, length_limit, parameter_ok, used}
use Rattle.columns.specs.Header.{header_bytes}
use Rattle.columns.proofs.Laws.Same.{same_plan}
use Rattle.columns.specs.Encode.{plan_with, refused, bytes, results, whole_results, payload_of, plan_rules, unless_refused, plan_by, plan_of, encoded_by, encode}

-- the rules, and what the bytes b then are
pub record Encoded (w : Wanted) (c m : ℕ) (xs : List ℤ) (b : List ℕ) : Type 0 where
  pub kind : Kind
  pub form : Form
  pub delta : Bool
  pub parameter : Parameter
  pub known : codec_of c ≡ codec_with kind form delta parameter
  pub suited : suits w kind ≡ true
  pub parameter-right : parameter_ok parameter m ≡ true
  pub whole : whole_results form m (length xs) ≡ true
  pub few : results form m (length xs) ≤ length_limit
  pub held : allowed form m xs ≡ true
  pub built : header_bytes c (results form m (length xs)) (used parameter m) ++ payload_of form delta xs ≡ b

-- the rules of a plan that is not refused
pub record Planned (w : Wanted) (c m e : ℕ) (f : Form) (d : Bool) (n v : ℕ) : Type 0 where
  pub kind : Kind
  pub parameter : Parameter
  pub known : codec_of c ≡ codec_with kind f d parameter
  pub suited : suits w kind ≡ true
  pub parameter-right : parameter_ok parameter m ≡ true
  pub whole : whole_results f m e ≡ true
  pub few : results f m e ≤ length_limit
  pub counted : results f m e ≡ n
  pub stored : used parameter m ≡ v

pub plan-rules : {f : Form} {d : Bool} {n v : ℕ} (w : Wanted) (c m e : ℕ) → plan_of w c m e ≡ plan_with f d n v → Planned w c m e f d n v
unfolding plan_of
plan-rules {f} {d} {n} {v} w c m e q = by-codec (codec_of c) refl q
  where
    by-rules : (k : Kind) (g : Form) (b : Bool) (p : Parameter) (r : ℕ) → codec_of c ≡ codec_with k g b p → first (plan_rules w k g p m e) ≡ r
        → unless_refused r (plan_with g b (results g m e) (used p m)) ≡ plan_with f d n v → Planned w c m e f d n v
    by-rules k g b p (suc r) known h q = let y : ◌≡◌ {A = ℕ} 0 1 = cc in absurd (omega arith)
    by-rules k g b p zero known h q =
        let same = same_plan q in
        let ef : g ≡ f = same.0 in
        let ed : b ≡ d = same.1 in
        let en : results g m e ≡ n = same.2 in
        let ev : used p m ≡ v = same.3 in
        let rule = first-each (plan_rules w k g p m e) h in
        record {
          kind = k;
          parameter = p;
          known = known ∙ ap₂ (λ (x : Form) (y : Bool). codec_with k x y p) ef ed;
          suited = unless_holds (suits w k) codec_unknown (omega arith) (rule 0);
          parameter-right = unless_holds (parameter_ok p m) header_range (omega arith) (rule 1);
          whole = rw ef at (unless_holds (whole_results g m e) header_range (omega arith) (rule 2));
          few = rw ef at (leb-true (results g m e) length_limit (unless_holds (leb (results g m e) length_limit) header_range (omega arith) (rule 3)));
          counted = rw ef at en;
          stored = ev;
        }

    by-codec : (r : Option Codec) → codec_of c ≡ r → plan_by w m e r ≡ plan_with f d n v → Planned w c m e f d n v
    by-codec None known q = let y : ◌≡◌ {A = ℕ} 0 1 = cc in absurd (omega arith)
    by-codec (Some r) known q = by-rules r.kind r.form r.delta r.parameter (first (plan_rules w r.kind r.form r.parameter m e)) known refl q

pub encode-plan : {t : Result Plan ℕ} (w : Wanted) (c m : ℕ) (xs : List ℤ) → plan_of w c m (length xs) ≡ t → encode w c m xs ≡ encoded_by c m xs t
unfolding encode
encode-plan w c m xs q = ap (encoded_by c m xs) q

module _ (w : Wanted) (c m : ℕ) (xs : List ℤ) (b : List ℕ) where
  pub encode-rules : encode w c m xs ≡ bytes b → Encoded w c m xs b
  encode-rules e = by-plan (plan_of w c m (length xs)) refl
    where
      by-cells : {f : Form} {d : Bool} {n v : ℕ} (t : Bool) → Planned w c m (length xs) f d n v → allowed f m xs ≡ t
          → cond t (bytes (header_bytes c n v ++ payload_of f d xs)) (refused number_not_allowed) ≡ bytes b → Encoded w c m xs b
      by-cells false r h q = let y : ◌≡◌ {A = ℕ} 0 1 = cc in absurd (omega arith)
      by-cells {f} {d} {n} {v} true r h q =
          let whole : header_bytes c n v ++ payload_of f d xs ≡ b = cc in
          record {
            kind = r.kind;
            form = f;
            delta = d;
            parameter = r.parameter;
            known = r.known;
            suited = r.suited;
            parameter-right = r.parameter-right;
            whole = r.whole;
            few = r.few;
            held = h;
            built = ap₂ (λ (i j : ℕ). header_bytes c i j ++ payload_of f d xs) r.counted r.stored ∙ whole;
          }

      by-plan : (t : Result Plan ℕ) → plan_of w c m (length xs) ≡ t → Encoded w c m xs b
      by-plan (Err r) q = let z = sym (encode-plan w c m xs q) ∙ e in let y : ◌≡◌ {A = ℕ} 0 1 = cc in absurd (omega arith)
      by-plan (Ok p) q = by-cells (allowed p.form m xs) (plan-rules w c m (length xs) q) refl (sym (encode-plan w c m xs q) ∙ e)

  pub encode-kept : Encoded w c m xs b → encode w c m xs ≡ bytes b
  unfolding encode plan_of
  encode-kept r =
      let few = le-leb (results r.form m (length xs)) length_limit r.few in
      rw (r.known, r.suited, r.parameter-right, r.whole, few, r.held) (ap bytes r.built)

-- Codecs, headers and plans that are the same have the same parts. Assumes nothing.
use Rattle.std.specs.Prelude.{◌≡◌, Bool, ℕ}
use Rattle.std.proofs.Common.{ap}
use Rattle.steps.specs.declared.Form.{Form}
use Rattle.columns.specs.declared.Kind.{Kind}
use Rattle.columns.specs.declared.Parameter.{Parameter}
use Rattle.columns.specs.declared.Codec.{Codec}
use Rattle.columns.specs.declared.Header.{Header}
use Rattle.columns.specs.declared.Plan.{Plan}
use Rattle.columns.specs.Table.{codec_with}
use Rattle.columns.specs.Header.{header_with}
use Rattle.columns.specs.Encode.{plan_with}

module _ {k j : Kind} {f g : Form} {d b : Bool} {p q : Parameter} where
  pub same_codec : codec_with k f d p ≡ codec_with j g b q → (k ≡ j) × (f ≡ g) × (d ≡ b) × (p ≡ q)
  same_codec e =
      let r : ◌≡◌ {A = Codec} (record { kind = k; form = f; delta = d; parameter = p }) (record { kind = j; form = g; delta = b; parameter = q }) = cc e in
      (ap (λ (c : Codec). c.kind) r, ap (λ (c : Codec). c.form) r, ap (λ (c : Codec). c.delta) r, ap (λ (c : Codec). c.parameter) r)

module _ {n i m l : ℕ} {k j : Kind} {f g : Form} {d b : Bool} where
  pub same_header : header_with n m k f d ≡ header_with i l j g b → (n ≡ i) × (m ≡ l) × (k ≡ j) × (f ≡ g) × (d ≡ b)
  same_header e =
      let r : ◌≡◌ {A = Header} (record { length = n; parameter = m; kind = k; form = f; delta = d }) (record { length = i; parameter = l; kind = j; form = g; delta = b }) = cc e in
      (ap (λ (h : Header). h.length) r, ap (λ (h : Header). h.parameter) r, ap (λ (h : Header). h.kind) r, ap (λ (h : Header). h.form) r, ap (λ (h : Header). h.delta) r)

module _ {f g : Form} {d b : Bool} {n i v u : ℕ} where
  pub same_plan : plan_with f d n v ≡ plan_with g b i u → (f ≡ g) × (d ≡ b) × (n ≡ i) × (v ≡ u)
  same_plan e =
      let r : ◌≡◌ {A = Plan} (record { form = f; delta = d; length = n; parameter = v }) (record { form = g; delta = b; length = i; parameter = u }) = cc e in
      (ap (λ (p : Plan). p.form) r, ap (λ (p : Plan). p.delta) r, ap (λ (p : Plan). p.length) r, ap (λ (p : Plan). p.parameter) r)

-- Laws of what is held of the receipts in files: it lies within its buffer. Assumes nothing.
use Rattle.std.specs.Prelude.{◌≡◌, refl, Bool, true, false, cond, Option, Result, Ok, Err, ℕ, ◌-◌, ◌≤◌, eqb}
use Rattle.std.proofs.Common.{sym, subst, ap, ◌∙◌, arith}
use Rattle.refusal.specs.Table.{accepted}
use Rattle.commands.specs.declared.bills.Run.{Run}
use Rattle.commands.specs.Bills.{held_by, at_first, opened_run, read_run, entered_run}
use Rattle.station.specs.Bills.{Holds, RunHolds, FilesHold, files_of}

-- of a run that is refused nothing is held
held-most : (refusal held : ℕ) → held_by refusal held ≤ held
held-most refusal held = go (eqb refusal accepted)
  where
    go : (t : Bool) → cond t held 0 ≤ held
    go true = omega arith
    go false = omega arith

-- a file that is opened changes nothing of what is held
pub opened-held : (run r : Run) (file : ℕ) → r ≡ opened_run run file → r.held ≡ run.held
opened-held run r file e = ap (λ (x : Run). x.held) e ∙ go (eqb run.refusal accepted) (eqb run.held 0)
  where
    go : (t u : Bool) → (cond t (cond u (at_first run file) run) run).held ≡ run.held
    go true true = refl
    go true false = refl
    go false u = refl

module _ (old run : Run) (bytes held room : ℕ) (e : run ≡ read_run old bytes held) where
  pub read-within : held ≤ room → run.held ≤ room
  read-within h = let m = held-most old.refusal held in let k = ap (λ (x : Run). x.held) e in omega arith

  pub read_left : run.left ≡ old.left - bytes
  read_left = ap (λ (x : Run). x.left) e

pub entered-holds : (old run : Run) (file refusal held receipts room : ℕ) → run ≡ entered_run old file refusal held receipts → held ≤ room → Holds old room run
entered-holds old run file refusal held receipts room e h =
    let m = held-most refusal held in
    let k = ap (λ (x : Run). x.held) e in
    record { within = omega arith; left = ap (λ (x : Run). x.left) e }

-- what reading a file gives
pub reached-files : {E : Type 0} (x : Result Run E) (r : Option Run) (room : ℕ) → r ≡ files_of x → RunHolds x room → FilesHold r room
reached-files (Ok run) r room e h = subst (λ (y : Option Run). FilesHold y room) (sym e) h
reached-files (Err k) r room e h = subst (λ (y : Option Run). FilesHold y room) (sym e) tt

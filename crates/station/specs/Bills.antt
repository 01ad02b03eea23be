-- What is held of the receipts in files lies within its buffer, and each piece that is read leaves fewer bytes to read. No lemma stands here: the laws
-- are in Laws/Bills.antt. Assumes nothing.
use Rattle.std.specs.Prelude.{◌≡◌, Option, Some, None, Result, Ok, Err, ℕ, ◌≤◌}
use Rattle.commands.specs.declared.bills.Run.{Run}

-- a run after receipts of it are entered
pub record Holds (old : Run) (room : ℕ) (run : Run) : Type 0 where
  pub within : run.held ≤ room
  pub left : run.left ≡ old.left

-- a run after pieces of a file are read, if no read failed
abbrev pub RunHolds : {E : Type 0} → Result Run E → ℕ → Type 0
RunHolds (Ok run) room = run.held ≤ room
RunHolds (Err e) room = Unit {0}

-- a run after files are read, if they could be read
abbrev pub FilesHold : Option Run → ℕ → Type 0
FilesHold (Some run) room = run.held ≤ room
FilesHold None room = Unit {0}

-- what reading a file gives, if no read failed
abbrev pub files_of : {E : Type 0} → Result Run E → Option Run
files_of (Ok run) = Some run
files_of (Err e) = None

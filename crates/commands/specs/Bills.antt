-- A run of receipts in files, as far as it is read: what is known of it when a file is opened, when bytes are read and when receipts are entered, and
-- how it ends. A receipt begins in the file that has its first byte. No lemma stands here. Assumes nothing.
use Rattle.std.specs.Prelude.{Bool, cond, ℕ, ◌+◌, ◌-◌, min, eqb, ltb}
use Rattle.refusal.specs.Table.{accepted, file_over_limit, receipt_malformed}
use Rattle.messagepack.specs.Limits.{file_limit}
use Rattle.commands.specs.declared.bills.Run.{Run}

-- nothing is read: a run is over the limit where it has one byte more
abbrev pub unread : Run
unread = record { left = file_limit + 1; held = 0; file = 0; number = 1; refusal = accepted }

-- the next receipt is the first of a file
abbrev pub at_first : Run → ℕ → Run
at_first run file = record { left = run.left; held = run.held; file = file; number = 1; refusal = run.refusal }

-- a file is opened: where bytes are held, the next receipt has begun in an earlier one
abbrev pub opened_run : Run → ℕ → Run
opened_run run file = cond (eqb run.refusal accepted) (cond (eqb run.held 0) (at_first run file) run) run

-- how many bytes are held: none where the run is refused
abbrev pub held_by : ℕ → ℕ → ℕ
held_by refusal held = cond (eqb refusal accepted) held 0

-- bytes are read, and so many of all are then held
abbrev pub read_run : Run → ℕ → ℕ → Run
read_run run bytes held =
    record { left = run.left - bytes; held = held_by run.refusal held; file = run.file; number = run.number; refusal = run.refusal }

-- the number of the next receipt in a file, or 0 where it begins in another
abbrev pub number_in : Run → ℕ → ℕ
number_in run file = cond (eqb run.file file) run.number 0

-- a number after more receipts, as far as 32 bits hold it: a run within the limit has fewer
abbrev pub raised : ℕ → ℕ → ℕ
raised n receipts = min (n + receipts) 4294967295

-- receipts are entered while a file is read: the next one has its refusal, and where there were any, it begins in that file
abbrev pub entered_run : Run → ℕ → ℕ → ℕ → ℕ → Run
entered_run run file refusal held receipts =
    record {
      left = run.left;
      held = held_by refusal held;
      file = cond (eqb receipts 0) run.file file;
      number = cond (eqb receipts 0) run.number (raised (number_in run file) receipts);
      refusal = refusal;
    }

-- what is decided of a receipt where a file ends: one that is malformed may go on in the next file
abbrev pub decided_by : ℕ → Bool → ℕ
decided_by refusal ends = cond ends (cond (eqb refusal receipt_malformed) accepted refusal) refusal

-- the refusal of a run when no more of it is read
abbrev pub refusal_of : Run → ℕ
refusal_of run = cond (eqb run.left 0) file_over_limit (cond (ltb 0 run.held) receipt_malformed run.refusal)

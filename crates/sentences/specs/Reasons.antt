-- The system's errors in words, by their numbers on Linux: those that opening, reading and writing a file meet. No lemma stands here. Assumes
-- nothing.
use Rattle.std.specs.Prelude.{cond, List, [], ◌∷◌, ◌++◌, ℕ, eqb, length}
use Rattle.text.specs.Ascii.{ascii}
use Rattle.text.specs.Decimal.{decimal}
use Rattle.meanings.specs.Meanings.{Meaning, says, text_in}

-- the errors that have words here
unfoldable pub reasons : List Meaning
reasons =
    says 2 "No such file or directory"
    ∷ says 4 "Interrupted system call"
    ∷ says 5 "Input/output error"
    ∷ says 6 "No such device or address"
    ∷ says 9 "Bad file descriptor"
    ∷ says 12 "Cannot allocate memory"
    ∷ says 13 "Permission denied"
    ∷ says 20 "Not a directory"
    ∷ says 21 "Is a directory"
    ∷ says 23 "Too many open files in system"
    ∷ says 24 "Too many open files"
    ∷ says 26 "Text file busy"
    ∷ says 27 "File too large"
    ∷ says 28 "No space left on device"
    ∷ says 30 "Read-only file system"
    ∷ says 32 "Broken pipe"
    ∷ says 36 "File name too long"
    ∷ says 40 "Too many levels of symbolic links"
    ∷ says 75 "Value too large for defined data type"
    ∷ says 122 "Disk quota exceeded"
    ∷ []

-- an error that has no words here, by its number
abbrev pub error_text : ℕ → List ℕ
error_text n = ascii "error " ++ decimal n

-- the words of an error
abbrev pub reason_text : ℕ → List ℕ
reason_text n = cond (eqb (length (text_in reasons n)) 0) (error_text n) (text_in reasons n)

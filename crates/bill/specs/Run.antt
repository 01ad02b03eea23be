-- Runs of receipts (paper 02, wish 1): the texts of receipts, one after another, and when the jobs of each station rise. No reader and no lemma
-- stands here: the laws are in Laws/Run.antt. Assumes nothing.
use Rattle.std.specs.Prelude.{◌≡◌, ℕ, zero, suc, Bool, true, cond, ◌&&◌, List, [], ◌∷◌, ◌++◌, ◌==◌, nat_lt}
use Rattle.receipt.specs.declared.Receipt.{Receipt}
use Rattle.receipt.specs.Receipt.{station_limit, written, rules_kept}

-- the texts of receipts, one after another
unfoldable pub texts : List Receipt → List ℕ
texts [] = []
texts (r ∷ rs) = written r ++ texts rs

-- whether each receipt keeps the rules of receipts
unfoldable pub all_kept : List Receipt → Bool
all_kept [] = true
all_kept (r ∷ rs) = rules_kept r && all_kept rs

-- the bytes are the run of these receipts
pub record IsRun (bytes : List ℕ) (rs : List Receipt) : Type 0 where
  pub rules : all_kept rs ≡ true
  pub text : bytes ≡ texts rs

-- as many stations as asked for, from one on
unfoldable pub stations_from : ℕ → ℕ → List ℕ
stations_from s zero = []
stations_from s (suc k) = s ∷ stations_from (suc s) k

-- all stations, rising
unfoldable pub stations : List ℕ
stations = stations_from 1 station_limit

-- the jobs of a station, in the order of its receipts, refused ones too
unfoldable pub jobs_of : ℕ → List Receipt → List ℕ
jobs_of s [] = []
jobs_of s (r ∷ rs) = cond (r.station == s) (r.job ∷ jobs_of s rs) (jobs_of s rs)

-- whether each number is above the one before it, the first above n
unfoldable pub above : ℕ → List ℕ → Bool
above n [] = true
above n (m ∷ ms) = nat_lt n m && above m ms

-- whether each number is above the one before it
unfoldable pub increasing : List ℕ → Bool
increasing [] = true
increasing (n ∷ ns) = above n ns

-- whether the jobs of each of some stations rise
unfoldable pub rising_in : List ℕ → List Receipt → Bool
rising_in [] rs = true
rising_in (s ∷ ss) rs = increasing (jobs_of s rs) && rising_in ss rs

-- whether the jobs rise within each station
abbrev pub rising : List Receipt → Bool
rising rs = rising_in stations rs

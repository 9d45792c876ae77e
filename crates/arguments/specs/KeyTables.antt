-- What the code's tables have to say of the 26 keys of argument lines. Assumes nothing.
use Rattle.std.specs.Prelude.{ℕ, ◌+◌, ◌-◌, ◌*◌, ◌%◌, ◌≤◌, ◌<◌, ◌≡◌, List, [], ◌∷◌, ◌++◌, length, get_or, if◌then◌else◌, None, Some}
use Rattle.text.specs.Base.{part}
use Rattle.text.specs.Parts.{same_bytes}
use Rattle.text.proofs.LiteralLaws.{codes}
use Rattle.script.specs.Operations.{key_row, keys_of, key_in}
use Rattle.script.specs.declared.roles.Key.{Key}
use Rattle.script.specs.declared.roles.Takes.{Takes}
use Rattle.script.specs.declared.roles.Takes.TheVariants.{NoLines, Options, Garbage, Verify, Texts, Store, Multiple, FirstData, FirstRaw}

-- ---- keys by place

abbrev pub argument_keys : List Key
argument_keys =
    Key.KeepFailed ∷ Key.KeepGoing ∷ Key.TryFallback ∷ Key.Verbosity ∷ Key.MaxBuildJobs ∷ Key.MaxSilentTime ∷ Key.UseBuildHook ∷ Key.VerboseBuild ∷ Key.LogType
    ∷ Key.PrintBuildTrace ∷ Key.BuildCores ∷ Key.UseSubstitutes ∷ Key.Overrides ∷ Key.Action ∷ Key.Paths ∷ Key.IgnoreLiveness ∷ Key.MaxFreed
    ∷ Key.CheckContents ∷ Key.Repair ∷ Key.Suffix ∷ Key.Text ∷ Key.Refs ∷ Key.Name ∷ Key.CamStr ∷ Key.Data ∷ Key.DontCheckSigs ∷ []

-- the key at a place; past the last, that one
unfoldable pub key_at : ℕ → Key
key_at n = get_or argument_keys n Key.DontCheckSigs

unfoldable pub name_at : ℕ → List ℕ
name_at n = codes (key_row (key_at n)).name

-- ---- where the names stand

-- the names of a list of keys, one behind the other
unfoldable pub letters : List Key → List ℕ
letters [] = []
letters (k ∷ ks) = codes (key_row k).name ++ letters ks

-- the letters from start up to end are the name at a place
pub record Spelt (n start end : ℕ) : Type 0 where
  pub forward : start ≤ end
  pub inside : end ≤ 257
  pub bytes : part (letters argument_keys) start (end - start) ≡ name_at n

-- by place, where the name begins; it ends where that of the next begins
pub record Starts (table : List ℕ) : Type 0 where
  pub rule : (n : ℕ) → n < 26 → Spelt n (get_or table n 0) (get_or table (n + 1) 0)

-- ---- the only key that can be meant

abbrev pub shift_of : Takes → ℕ
shift_of NoLines = 1
shift_of Options = 0
shift_of Garbage = 18
shift_of Verify = 8
shift_of Texts = 4
shift_of Store = 17
shift_of Multiple = 5
shift_of FirstData = 32
shift_of FirstRaw = 1

-- the sum that tells the keys of an operation apart: the length and the first byte
abbrev pub name_sum : Takes → List ℕ → ℕ
name_sum takes s = (shift_of takes + length s + 7 * get_or s 0 0) % 36

-- of the keys of an operation s can name the one at place n, and no other
pub record Meant (takes : Takes) (s : List ℕ) (n : ℕ) : Type 0 where
  pub small : n < 26
  pub only : (if same_bytes s (name_at n) then Some (key_at n) else None) ≡ key_in (keys_of takes) s

-- by the sum of a text, the place of the key that it can name
pub record Hints (table : List ℕ) : Type 0 where
  pub rule : (takes : Takes) (s : List ℕ) → Meant takes s (get_or table (name_sum takes s) 0)

-- Demand 3 of document 01: a text is read into lent tables, and then judged by any list of calls. The premises are what Read's contract (crates/read,
-- `read::reading::read`) says where it answers with a script. Assumes nothing.
use Rattle.std.specs.Prelude.{Err, Ok}
use Prim.Native.Nat.{ℕ}
use mathlib.Core.Path.{◌≡◌, refl}
use mathlib.Core.List.{List}
use native.Mathlib.Omega.{arith}
use lib.ListN.{length}
use Rattle.script.specs.Layout.{Reading}
use Rattle.script.specs.Reading.{read_into, Parsed}
use Rattle.script.specs.declared.records.Entry.{Entry}
use Rattle.script.specs.declared.records.Expectation.{Expectation}
use Rattle.script.specs.declared.records.Script.{Script}
use Rattle.written.specs.Written.{written_at}
use Rattle.read.specs.Read.{lent_of, script_or, tables_or}
use Rattle.judging.specs.Calls.{Call}
use Rattle.judging.specs.PlainJudge.{plain_run}
use Rattle.judging.specs.Judge.{Lent}
use Rattle.judging.specs.Claim.{AsRead, state_over, our_run, InWords}
use Rattle.judging.proofs.DemandThree as whole

module _
    -- the text, and what is lent to Read
    (text : List ℕ) (entries : List Entry) (items : List (List ℕ)) (expectations : List Expectation) (store : List ℕ)
    -- the script that it answers, and the tables that it leaves
    (script : Script) (entries-left : List Entry) (expectations-left : List Expectation)
    (answers : Ok script ≡ script_or (read_into (lent_of entries items expectations store) text))
    (leaves-entries : entries-left ≡ written_at 0 (tables_or (read_into (lent_of entries items expectations store) text)).entries entries)
    (leaves-expectations : expectations-left ≡ written_at 0 (tables_or (read_into (lent_of entries items expectations store) text)).expectations expectations) where
  -- what is then lent to the calls
  abbrev pub lent : Lent
  lent = record { text = text; script = script; entries = entries-left; expectations = expectations-left }

  pub as_read : (r : Reading) × AsRead (lent_of entries items expectations store) entries expectations r lent
  unfolding script_or tables_or
  as_read = go (read_into (lent_of entries items expectations store) text) refl answers leaves-entries leaves-expectations
    where
      go : (p : Parsed Reading) → read_into (lent_of entries items expectations store) text ≡ p → Ok script ≡ script_or p
          → entries-left ≡ written_at 0 (tables_or p).entries entries → expectations-left ≡ written_at 0 (tables_or p).expectations expectations
          → (r : Reading) × AsRead (lent_of entries items expectations store) entries expectations r lent
      go (Err q) e a x y = let z : ◌≡◌ {A = ℕ} 0 1 = cc in absurd (omega arith)
      go (Ok r) e a x y =
          let s : script ≡ r.script = cc in
          (r, record { entries-lent = refl; expectations-lent = refl; is_read = e; script = s; entries-left = x; expectations-left = y })

  module _ (before : List ℕ) (calls : List Call) where
    -- From a fresh tally and a verdict list that holds `before`: every answer, the tally's next number and counts, and the verdict list are those of the
    -- plain judge, which sees the text alone; where its slot is empty or missing, ours is as before the first call.
    pub demand_three : our_run lent before calls ≡ ((plain_run text (length before) calls).0, state_over before (plain_run text (length before) calls).1)
    demand_three = whole.demand_three (lent_of entries items expectations store) entries expectations as_read.0 lent as_read.1 before calls

    -- the same in the user's words
    pub in_words : InWords lent before calls (our_run lent before calls).0 (our_run lent before calls).1
    in_words = whole.in_words (lent_of entries items expectations store) entries expectations as_read.0 lent as_read.1 before calls

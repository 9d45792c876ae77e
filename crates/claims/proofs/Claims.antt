-- What is claimed of the whole: read this file first. Each proof is a citation. Assumes nothing.
use Rattle.std.specs.Prelude.{Ok}
use Prim.Native.Nat.{ℕ}
use mathlib.Core.Path.{◌≡◌, refl, ap, ◌∙◌}
use mathlib.Core.Logic.{◌↔◌}
use mathlib.Core.Bool.{true}
use mathlib.Core.List.{List}
use lib.ListN.{length}
use Rattle.text.specs.Utf8.{well_formed}
use Rattle.text.specs.Unicode.{all_scalars, encoded_all, scalars}
use Rattle.text.specs.Trim.{scalars_trimmed, trimmed}
use Rattle.characters.proofs.Unicode.{encodings_are_well_formed, encodings_are_decoded, well_formed_are_encodings}
use Rattle.characters.proofs.TrimmedTexts.{trimmed-text}
use Rattle.script.specs.Reading.{read_into}
use Rattle.script.specs.declared.records.Entry.{Entry}
use Rattle.script.specs.declared.records.Expectation.{Expectation}
use Rattle.script.specs.declared.records.Script.{Script}
use Rattle.written.specs.Written.{written_at}
use Rattle.read.specs.Read.{lent_of, script_or, tables_or}
use Rattle.judging.specs.Calls.{Call}
use Rattle.judging.specs.Judge.{Lent}
use Rattle.judging.specs.PlainJudge.{plain_run}
use Rattle.judging.specs.Claim.{state_over, our_run, InWords}
use Rattle.parse.specs.contracts.measure.measure as measure
use Rattle.parse.proofs.measure.measure.Symbol as measure-code
use Rattle.parse.proofs.measure.measure.Met as measure-theorem
use Rattle.read.specs.contracts.reading.read as read
use Rattle.read.proofs.reading.read.Symbol as read-code
use Rattle.read.proofs.reading.read.Met as read-theorem
use Rattle.judge.specs.contracts.tally.Tally.new as new
use Rattle.judge.proofs.tally.Tally.new.Symbol as new-code
use Rattle.judge.proofs.tally.Tally.new.Met as new-theorem
use Rattle.judge.specs.contracts.tally.Tally.handshake as handshake
use Rattle.judge.proofs.tally.Tally.handshake.Symbol as handshake-code
use Rattle.judge.proofs.tally.Tally.handshake.Met as handshake-theorem
use Rattle.judge.specs.contracts.tally.Tally.entry as entry
use Rattle.judge.proofs.tally.Tally.entry.Symbol as entry-code
use Rattle.judge.proofs.tally.Tally.entry.Met as entry-theorem
use Rattle.judge.specs.contracts.tally.Tally.close as close
use Rattle.judge.proofs.tally.Tally.close.Symbol as close-code
use Rattle.judge.proofs.tally.Tally.close.Met as close-theorem
use Rattle.tell.specs.contracts.message.message_at as message
use Rattle.tell.proofs.message.message_at.Symbol as message-code
use Rattle.tell.proofs.message.message_at.Met as message-theorem
use Rattle.listing.specs.contracts.whole.list as list
use Rattle.listing.proofs.whole.list.Symbol as list-code
use Rattle.listing.proofs.whole.list.Met as list-theorem
use Rattle.script_run.specs.contracts.running.run_script as run
use Rattle.script_run.proofs.running.run_script.Symbol as run-code
use Rattle.script_run.proofs.running.run_script.Met as run-theorem
use Rattle.ran.proofs.DemandThree as three
use Rattle.claims.specs.Total.{TotalWherever}
use Rattle.claims.specs.WhiteSpace.{Trimmed}
use Rattle.claims.proofs.DemandOne.{total}
use Rattle.table.proofs.Table.{Rows, table}
use Rattle.claims.proofs.WhiteSpace.{trimmed-is}

-- ---- DEMAND 1: total and in bounds

-- Whatever text, table or response a public entry is handed, it ends, does not trap, and reads and writes nothing outside what it was lent (`Total`,
-- specs/Total.antt, says it of the machine's run; `TotalWherever`, wherever its code stands, so on the machine that runs a program which has that code:
-- DemandOne.antt `in_programs`). Shown by each function's theorem, that it meets its contract; no contract here has a `requires`.
-- In this order: Measure; Read; a fresh tally; Judge, of the handshake and of an entry; Close; Message, whether judged against a response or against
-- what the handshake told; a text read and judged by a list of calls; the listing.
pub demand_one :
    TotalWherever measure.signature measure-code.code measure-code.name
    × TotalWherever read.signature read-code.code read-code.name
    × TotalWherever new.signature new-code.code new-code.name
    × TotalWherever handshake.signature handshake-code.code handshake-code.name
    × TotalWherever entry.signature entry-code.code entry-code.name
    × TotalWherever close.signature close-code.code close-code.name
    × TotalWherever message.signature message-code.code message-code.name
    × TotalWherever run.signature run-code.code run-code.name
    × TotalWherever list.signature list-code.code list-code.name
demand_one = (
  total measure.signature measure-code.code measure-code.name (λ M 𝓤 𝓛. measure.spec 𝓛) (λ M. measure-theorem.met) (λ M 𝓤 𝓛 mem run κs a. (tt, refl)),
  total read.signature read-code.code read-code.name (λ M 𝓤 𝓛. read.spec 𝓛) (λ M. read-theorem.met) (λ M 𝓤 𝓛 mem run κs a. (tt, refl)),
  total new.signature new-code.code new-code.name (λ M 𝓤 𝓛. new.spec 𝓛) (λ M. new-theorem.met) (λ M 𝓤 𝓛 mem run κs a. (tt, refl)),
  total handshake.signature handshake-code.code handshake-code.name (λ M 𝓤 𝓛. handshake.spec 𝓛) (λ M. handshake-theorem.met) (λ M 𝓤 𝓛 mem run κs a. (tt, refl)),
  total entry.signature entry-code.code entry-code.name (λ M 𝓤 𝓛. entry.spec 𝓛) (λ M. entry-theorem.met) (λ M 𝓤 𝓛 mem run κs a. (tt, refl)),
  total close.signature close-code.code close-code.name (λ M 𝓤 𝓛. close.spec 𝓛) (λ M. close-theorem.met) (λ M 𝓤 𝓛 mem run κs a. (tt, refl)),
  total message.signature message-code.code message-code.name (λ M 𝓤 𝓛. message.spec 𝓛) (λ M. message-theorem.met) (λ M 𝓤 𝓛 mem run κs a. (tt, refl)),
  total run.signature run-code.code run-code.name (λ M 𝓤 𝓛. run.spec 𝓛) (λ M. run-theorem.met) (λ M 𝓤 𝓛 mem run κs a. (tt, refl)),
  total list.signature list-code.code list-code.name (λ M 𝓤 𝓛. list.spec 𝓛) (λ M. list-theorem.met) (λ M 𝓤 𝓛 mem run κs a. (tt, refl)),
)

-- ---- DEMAND 2, as far as it is proved: Unicode's own data. (That the answers are those of the Rust is shown by runs, docs/DIFFERENCES.md.)

-- Our test for UTF-8 (contract of `utf8::well_formed`) accepts exactly the encodings of lists of scalar values of Unicode,
pub utf_8 : (s : List ℕ) → (well_formed s ≡ true) ↔ ((cs : List ℕ) × (all_scalars cs ≡ true) × (s ≡ encoded_all cs))
utf_8 s = (λ w. let d = well_formed_are_encodings s w in (scalars s, d.valid, d.is), λ e. ap well_formed e.2 ∙ encodings_are_well_formed e.0 e.1)

-- and decoding gives these back.
pub decoding : (cs : List ℕ) → all_scalars cs ≡ true → scalars (encoded_all cs) ≡ cs
decoding = encodings_are_decoded

-- Trimming (contract of `trimming::trim`) takes off exactly the White_Space characters at both ends (`Trimmed`, specs/WhiteSpace.antt): what is left of
-- the bytes encodes what is left of the characters.
pub white_space_lem : (s : List ℕ) → well_formed s ≡ true → (kept : List ℕ) × Trimmed (scalars s) kept × (trimmed s ≡ encoded_all kept)
white_space_lem s w = (scalars_trimmed (scalars s), trimmed-is (scalars s), trimmed-text s w)

-- ---- DEMAND 3: reading, and then any list of calls

module _
    -- a text, and what is lent to Read
    (text : List ℕ) (entries : List Entry) (items : List (List ℕ)) (expectations : List Expectation) (store : List ℕ)
    -- the script that it answers, and the tables that it leaves: three clauses of its contract
    (script : Script) (entries-left : List Entry) (expectations-left : List Expectation)
    (answers : Ok script ≡ script_or (read_into (lent_of entries items expectations store) text))
    (leaves-entries : entries-left ≡ written_at 0 (tables_or (read_into (lent_of entries items expectations store) text)).entries entries)
    (leaves-expectations : expectations-left ≡ written_at 0 (tables_or (read_into (lent_of entries items expectations store) text)).expectations expectations)
    -- a verdict list, and the calls
    (before : List ℕ) (calls : List Call) where
  -- what is lent to the calls
  abbrev pub lent : Lent
  lent = record { text = text; script = script; entries = entries-left; expectations = expectations-left }

  -- From a fresh tally, every answer, the tally's next number and counts, and the verdict list are those of the plain judge, which sees the text alone;
  -- where its slot is empty or missing, ours is as before the first call.
  pub demand_three : our_run lent before calls ≡ ((plain_run text (length before) calls).0, state_over before (plain_run text (length before) calls).1)
  demand_three = three.demand_three text entries items expectations store script entries-left expectations-left answers leaves-entries leaves-expectations before calls

  -- The same in the user's words (`InWords`, judging/specs/Claim.antt, clause by clause): each line that, trimmed, begins with `expect` has exactly one verdict
  -- if its entry, or the handshake, was judged unrefused, and none otherwise; closing says passed exactly when there is a verdict and every one passed.
  pub in_words : InWords lent before calls (our_run lent before calls).0 (our_run lent before calls).1
  in_words = three.in_words text entries items expectations store script entries-left expectations-left answers leaves-entries leaves-expectations before calls

-- ---- THE TABLE, "Proved in a single table": P1 to P16, sixteen rows (`Rows`, crates/table/proofs/Table.antt)

pub the_table : Rows
the_table = table

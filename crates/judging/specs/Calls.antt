-- A list of calls: what each is given, when it is refused, and what it answers. Both judges, ours and the plain one, are run by these definitions.
-- Assumes nothing.
use Rattle.std.specs.Prelude.{ℕ, Bool, false, not, List, [], ◌∷◌, map, length, ltb, eqb, Err, None, Ok, Option, Result, Some}
use Rattle.text.specs.Base.{◌or◌}
use Rattle.script.specs.declared.records.Expectation.{Expectation}
use Rattle.script.specs.declared.records.Refusal.{Refusal}
use Rattle.verdicts.specs.Expected.{Expected}
use Rattle.verdicts.specs.Told.{Subject}
use Rattle.verdicts.specs.Held.{expected_of}
use Rattle.verdicts.specs.Subjects.{held_by, parts_in}
use Rattle.verdicts.specs.declared.handed.Handed.{Handed}
use Rattle.verdicts.specs.declared.handed.Handed.TheVariants.{Info, Response}
use Rattle.tallies.specs.declared.calls.Answer.{Answer}
use Rattle.tallies.specs.declared.calls.Answer.TheVariants.{Judged}

-- ---- a call

-- What Judge is given: the number; the handshake's information or a response; the bytes that hold its texts and the table that holds its lists; and how
-- many bytes the scratch has. All of it counts as the call finds it.
pub record Judging : Type 0 where
  pub number : ℕ
  pub handed : Handed
  pub bytes : List ℕ
  pub lists : List (List ℕ)
  pub scratch : ℕ

pub data Call : Type 0 where
  judge : Judging → Call
  close : Call

-- what its expectations are judged against
abbrev pub subject_of : Judging → Subject
subject_of j = held_by j.bytes j.lists j.handed

-- what expectations say, their texts as bytes
unfoldable pub said : (text : List ℕ) → List Expectation → List Expected
said text es = map (λ e. expected_of text e.expect) es

-- ---- its refusals

-- the number is not the next one, is 0 for an entry or any other for the handshake, or is past the count of entries
unfoldable pub wrong_number : (next number : ℕ) → (past : Bool) → Handed → Bool
wrong_number next number past (Info i) = not (eqb number next) or not (eqb number 0)
wrong_number next number past (Response r) = not (eqb number next) or eqb number 0 or past

-- a part of the response or handshake information outside its bytes
unfoldable pub part_outside : Judging → Bool
part_outside j = not (parts_in j.bytes j.lists j.handed)

-- a present value longer than the scratch, among the values looked up
unfoldable pub too_long : (scratch : ℕ) → (values : List (Option (List ℕ))) → Bool
too_long scratch [] = false
too_long scratch (None ∷ values) = too_long scratch values
too_long scratch (Some value ∷ values) = ltb scratch (length value) or too_long scratch values

-- ---- its answer

-- A judging that is refused changes nothing.
unfoldable pub judged_or : {State : Type 0} → Option Refusal → (before after : State) → Result Answer Refusal × State
judged_or None before after = (Ok Judged, after)
judged_or (Some r) before after = (Err r, before)

-- ---- a list of calls

-- Each call finds the state that the one before it left: every answer, and the last state.
unfoldable pub run : {State : Type 0} → (step : State → Call → Result Answer Refusal × State) → State → List Call → List (Result Answer Refusal) × State
run step s [] = ([], s)
run step s (c ∷ cs) =
    let (answer, next) = step s c in
    let (answers, last) = run step next cs in
    (answer ∷ answers, last)

-- What a stored answer of the Rust to Message is compared with, and the numbers of its line: 0 for the handshake or another for an entry; the verdict's
-- number; from 2 on the row of the expectation; from 8 on the row of what it is judged against; from 27 on a table of six places. Assumes nothing.
use Rattle.std.specs.Prelude.{ℕ, Bool, false, List, [], ◌∷◌, eqb, leb, length, get_or, take, Result, Ok, Err}
use Rattle.text.specs.Base.{◌&◌}
use Rattle.text.specs.Parts.{same_bytes}
use Rattle.verdicts.specs.Verdicts.{code}
use Rattle.script.specs.declared.records.Refusal.{Refusal}
use Rattle.told.specs.declared.Told.{Told}

abbrev pub of_handshake : (n : List ℕ) → Bool
of_handshake n = eqb (get_or n 0 0) 0

-- a place
abbrev pub pair : (n : List ℕ) → (start len : ℕ) → List ℕ
pair n start len = get_or n start 0 ∷ get_or n len 0 ∷ []

-- the table of places
unfoldable pub table_of : (n : List ℕ) → List (List ℕ)
table_of n = pair n 27 28 ∷ pair n 29 30 ∷ pair n 31 32 ∷ pair n 33 34 ∷ pair n 35 36 ∷ pair n 37 38 ∷ []

-- it answers with this verdict, and the message is the one stored
unfoldable pub says_so : Result Told Refusal → (verdict : ℕ) → (said stored : List ℕ) → Bool
says_so (Err r) verdict said stored = false
says_so (Ok t) verdict said stored = eqb (code t.verdict) verdict & same_bytes said stored

-- the same of a buffer that was lent
unfoldable pub written_as : Result Told Refusal → (verdict : ℕ) → (left stored : List ℕ) → Bool
written_as (Err r) verdict left stored = false
written_as (Ok t) verdict left stored = leb t.len (length left) & (eqb (code t.verdict) verdict & same_bytes (take t.len left) stored)

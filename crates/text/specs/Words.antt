-- Document 01, "The script": a feature set without braces is split at white space. The words of a text stand between White_Space characters. Assumes nothing.
use Rattle.std.specs.Prelude.{ℕ, zero, suc, ◌+◌, ◌-◌, List, [], ◌∷◌, eqb, drop, if◌then◌else◌}
use Rattle.text.specs.Trim.{white_bytes, size_of}
use Rattle.text.specs.declared.parts.Span.{Span}
use Rattle.text.specs.Parts.{span}

-- A walk over the text: the word at hand stands from start to `at`; none is begun where they are equal. `skip`: bytes of a White_Space character still to go.
unfoldable pub words_from : (skip start at : ℕ) → List ℕ → List Span
words_from skip start at [] = if eqb start at then [] else (span start at ∷ [])
words_from (suc skip) start at (x ∷ rest) = words_from skip (at + 1) (at + 1) rest
words_from zero start at (x ∷ rest) =
    let size = size_of white_bytes (x ∷ rest) in
    let longer = words_from 0 start (at + 1) rest in
    let apart = words_from (size - 1) (at + 1) (at + 1) rest in
    let ended = span start at ∷ apart in
    if eqb size 0 then longer else if eqb start at then apart else ended

unfoldable pub words : List ℕ → List Span
words s = words_from 0 0 0 s

-- the first word from `at` on; one with no bytes where there is none
unfoldable pub word_from : (skip start at : ℕ) → List ℕ → Span
word_from skip start at [] = span start at
word_from (suc skip) start at (x ∷ rest) = word_from skip (at + 1) (at + 1) rest
word_from zero start at (x ∷ rest) =
    let size = size_of white_bytes (x ∷ rest) in
    let longer = word_from 0 start (at + 1) rest in
    let apart = word_from (size - 1) (at + 1) (at + 1) rest in
    if eqb size 0 then longer else if eqb start at then apart else span start at

unfoldable pub word_at : List ℕ → (at : ℕ) → Span
word_at s at = word_from 0 at at (drop at s)

-- How long a message is, as the code adds it up: the value is only known by its length. Assumes nothing.
use Rattle.std.specs.Prelude.{ℕ, ◌+◌, List, length}
use Rattle.verdicts.specs.Held.{text_at}
use Rattle.verdicts.specs.Messages.{integer}
use Rattle.frames.specs.Words.{head_bytes, middle_bytes}
use Rattle.frames.specs.declared.frames.Piece.{Piece}
use Rattle.frames.specs.declared.frames.Piece.TheVariants as pieces
use Rattle.frames.specs.declared.frames.Ending.{Ending}
use Rattle.frames.specs.declared.frames.Ending.TheVariants as endings
use Rattle.frames.specs.declared.frames.Frame.{Frame}

-- an ending's word: `, got ` and `/, got `
unfoldable pub ending_word : Ending → ℕ
ending_word endings.Nothing = 0
ending_word endings.Got = 6
ending_word endings.PatternGot = 7

-- and the value behind it
unfoldable pub ending_value : (len : ℕ) → Ending → ℕ
ending_value len endings.Nothing = 0
ending_value len endings.Got = len
ending_value len endings.PatternGot = len

module _ (text bytes : List ℕ) (len : ℕ) where
  unfoldable pub piece_length : Piece → ℕ
  piece_length pieces.Nothing = 0
  piece_length (pieces.Text p) = length (text_at text p)
  piece_length (pieces.Held p) = length (text_at bytes p)
  piece_length pieces.Value = len
  piece_length (pieces.Number n) = length (integer n)

  unfoldable pub frame_length : Frame → ℕ
  frame_length f =
      length (head_bytes f.first) + length (text_at text f.a) + length (middle_bytes f.second) + piece_length f.b + ending_word f.ending + ending_value len f.ending

-- What expectations are judged against: the handshake's information, or a response, with the bytes that hold its texts and the table that holds its
-- lists. Assumes nothing.
use Rattle.std.specs.Prelude.{ℕ, Bool, List, length}
use Rattle.verdicts.specs.Told.{Subject, greeting, reply}
use Rattle.verdicts.specs.Held.{response_of, info_of, response_in, info_in}
use Rattle.verdicts.specs.declared.handed.Handed.{Handed}
use Rattle.verdicts.specs.declared.handed.Handed.TheVariants.{Info, Response}

module _ (bytes : List ℕ) (lists : List (List ℕ)) where
  -- what the expectations are judged against
  unfoldable pub held_by : Handed → Subject
  held_by (Info i) = greeting (info_of bytes lists i)
  held_by (Response r) = reply (response_of bytes lists r)

  -- every part of it lies inside its bytes
  unfoldable pub parts_in : Handed → Bool
  parts_in (Info i) = info_in (length bytes) lists i
  parts_in (Response r) = response_in (length bytes) lists r

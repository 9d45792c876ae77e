-- Rooms and bytes of words and pieces, one behind the other. Assumes nothing.
use Rattle.std.specs.Prelude.{Option, Some}
use Prim.Native.Nat.{ℕ, ◌+◌, ◌≤◌}
use mathlib.Core.Path.{◌≡◌, refl, sym, ap, ◌∙◌}
use mathlib.Core.List.{List, ◌++◌}
use native.Mathlib.Omega.{arith}
use lib.ListN.{length, length-append}
use Rattle.verdicts.specs.Held.{text_at}
use Rattle.text.specs.Unicode.{encoded}
use Rattle.text.specs.Literal.{utf8}
use Rattle.writing.specs.Room.{left, less_by}
use Rattle.text.proofs.LiteralLaws.{codes}
use Rattle.written.specs.declared.Writer.{Writer}
use Rattle.written.specs.Writing.{Room, wrote}
use Rattle.written.proofs.WriterLaws.{room_front, room_behind, wrote_behind}
use Rattle.writing.proofs.RoomLaws.{left_more}
use Rattle.frames.specs.Words.{head_bytes, middle_bytes}
use Rattle.frames.specs.Frames.{piece_bytes, ending_bytes, frame_bytes}
use Rattle.frames.specs.declared.frames.Piece.{Piece}
use Rattle.frames.specs.declared.frames.Piece.TheVariants as pieces
use Rattle.frames.specs.declared.frames.Ending.{Ending}
use Rattle.frames.specs.declared.frames.Ending.TheVariants as endings
use Rattle.frames.specs.declared.frames.Frame.{Frame}
use Rattle.messages.specs.Lengths.{piece_length, ending_word, ending_value, frame_length}
use Rattle.written.proofs.WriterLaws.{room_as, wrote_as, handed_at, handed_back}

-- ---- rooms

pub less_same : (r room : Option ℕ) (n m : ℕ) → r ≡ less_by room n → n ≡ m → r ≡ less_by room m
less_same r room n m e h = e ∙ ap (less_by room) h

-- six lengths taken off
pub six_off : (room a b c d e f : ℕ) (r₁ r₂ r₃ r₄ r₅ r₆ : Option ℕ) → r₁ ≡ less_by (Some room) a → r₂ ≡ less_by r₁ b → r₃ ≡ less_by r₂ c → r₄ ≡ less_by r₃ d → r₅ ≡ less_by r₄ e → r₆ ≡ less_by r₅ f → r₆ ≡ left room (a + b + c + d + e + f)
unfolding less_by
six_off room a b c d e f r₁ r₂ r₃ r₄ r₅ r₆ p₁ p₂ p₃ p₄ p₅ p₆ =
    let q₁ : r₁ ≡ left room a = p₁ ∙ first in
    let q₂ : r₂ ≡ left room (a + b) = p₂ ∙ ap (λ (r : Option ℕ). less_by r b) q₁ ∙ left_more room a b in
    let q₃ : r₃ ≡ left room (a + b + c) = p₃ ∙ ap (λ (r : Option ℕ). less_by r c) q₂ ∙ left_more room (a + b) c in
    let q₄ : r₄ ≡ left room (a + b + c + d) = p₄ ∙ ap (λ (r : Option ℕ). less_by r d) q₃ ∙ left_more room (a + b + c) d in
    let q₅ : r₅ ≡ left room (a + b + c + d + e) = p₅ ∙ ap (λ (r : Option ℕ). less_by r e) q₄ ∙ left_more room (a + b + c + d) e in
    p₆ ∙ ap (λ (r : Option ℕ). less_by r f) q₅ ∙ left_more room (a + b + c + d + e) f
  where
    first : less_by (Some room) a ≡ left room a
    first = refl

-- what is added up is the message's length
pub piece_length_lem : (text bytes value : List ℕ) (p : Piece) → piece_length text bytes (length value) p ≡ length (piece_bytes text bytes value p)
unfolding piece_length piece_bytes
piece_length_lem text bytes value pieces.Nothing = refl
piece_length_lem text bytes value (pieces.Text p) = refl
piece_length_lem text bytes value (pieces.Held p) = refl
piece_length_lem text bytes value pieces.Value = refl
piece_length_lem text bytes value (pieces.Number n) = refl

-- an ending's two lengths taken off
pub ending_off : (r s room : Option ℕ) (len : ℕ) (e f : Ending) → e ≡ f → s ≡ less_by room (ending_word f) → r ≡ less_by s (ending_value len f) → r ≡ less_by (less_by room (ending_word e)) (ending_value len e)
ending_off r s room len e f h p q = rw h (q ∙ ap (λ (l : Option ℕ). less_by l (ending_value len f)) p)

module _ (value : List ℕ) (e : Ending) where
  pub got_length : e ≡ endings.Got → length (ending_bytes value e) ≡ 6 + length value
  unfolding ending_bytes utf8 encoded
  got_length h = rw h (length-append (utf8 ", got ") value)

  pub pattern-length : e ≡ endings.PatternGot → length (ending_bytes value e) ≡ 7 + length value
  unfolding ending_bytes utf8 encoded
  pattern-length h = rw h (length-append (utf8 "/, got ") value)

pub ending_length : (value : List ℕ) (e : Ending) → ending_word e + ending_value (length value) e ≡ length (ending_bytes value e)
unfolding ending_word ending_value ending_bytes utf8 encoded
ending_length value endings.Nothing = refl
ending_length value endings.Got = sym (length-append (utf8 ", got ") value)
ending_length value endings.PatternGot = sym (length-append (utf8 "/, got ") value)

module _ (text bytes value : List ℕ) (f : Frame) where
  abbrev B : List ℕ
  B = piece_bytes text bytes value f.b

  abbrev E : List ℕ
  E = ending_bytes value f.ending

  -- the lengths of its words and pieces
  pub frame_sum : length (frame_bytes text bytes value f) ≡ length (head_bytes f.first) + length (text_at text f.a) + length (middle_bytes f.second) + length B + length E
  unfolding frame_bytes
  frame_sum =
      omega (
        arith,
        length-append (head_bytes f.first ++ text_at text f.a ++ middle_bytes f.second ++ B) E,
        length-append (head_bytes f.first ++ text_at text f.a ++ middle_bytes f.second) B,
        length-append (head_bytes f.first ++ text_at text f.a) (middle_bytes f.second),
        length-append (head_bytes f.first) (text_at text f.a),
      )

  pub frame_length_lem : frame_length text bytes (length value) f ≡ length (frame_bytes text bytes value f)
  unfolding frame_length
  frame_length_lem =
      let y = piece_length_lem text bytes value f.b in
      let z = ending_length value f.ending in
      omega (arith, y, z, frame_sum)

-- ---- bytes

-- a word, then the value
module _ (value : List ℕ) (e : Ending) (w v u : Writer ℕ) (room : Room (length (ending_bytes value e)) w) where
  module _ (h : e ≡ endings.Got) (p : v ≡ wrote (codes ", got ") w) where
    got_is : ending_bytes value e ≡ codes ", got " ++ value
    unfolding ending_bytes utf8 encoded
    got_is = ap (ending_bytes value) h

    pub got_room : Room (length value) v
    got_room = room_behind _ w v p value _ got_is room

    pub got_wrote : u ≡ wrote value v → u ≡ wrote (ending_bytes value e) w
    got_wrote = wrote_behind _ w v p value _ got_is room u

  module _ (h : e ≡ endings.PatternGot) (p : v ≡ wrote (codes "/, got ") w) where
    pattern_is : ending_bytes value e ≡ codes "/, got " ++ value
    unfolding ending_bytes utf8 encoded
    pattern_is = ap (ending_bytes value) h

    pub pattern_room : Room (length value) v
    pattern_room = room_behind _ w v p value _ pattern_is room

    pub pattern_wrote : u ≡ wrote value v → u ≡ wrote (ending_bytes value e) w
    pattern_wrote = wrote_behind _ w v p value _ pattern_is room u

-- the words and pieces of a frame, one behind the other
module _ (text bytes value : List ℕ) (f : Frame) where
  -- the first two, three and four of them
  abbrev two : List ℕ
  two = head_bytes f.first ++ text_at text f.a

  abbrev three : List ℕ
  three = two ++ middle_bytes f.second

  abbrev four : List ℕ
  four = three ++ piece_bytes text bytes value f.b

  module _ (w : Writer ℕ) (room : Room (length (frame_bytes text bytes value f)) w) where
    four_fit : Room (length four) w
    unfolding frame_bytes
    four_fit = room_front four (ending_bytes value f.ending) (frame_bytes text bytes value f) w refl room

    three_fit : Room (length three) w
    three_fit = room_front three (piece_bytes text bytes value f.b) four w refl four_fit

    two_fit : Room (length two) w
    two_fit = room_front two (middle_bytes f.second) three w refl three_fit

    pub head_room : Room (length (head_bytes f.first)) w
    head_room = room_front (head_bytes f.first) (text_at text f.a) two w refl two_fit

    module _ (u : Writer ℕ) (p : u ≡ wrote (head_bytes f.first) w) where
      pub text_room : Room (length (text_at text f.a)) u
      text_room = room_behind _ w u p (text_at text f.a) two refl two_fit

      module _ (v : Writer ℕ) (q : v ≡ wrote (text_at text f.a) u) where
        so₂ : v ≡ wrote two w
        so₂ = wrote_behind _ w u p (text_at text f.a) two refl two_fit v q

        pub middle_room : Room (length (middle_bytes f.second)) v
        middle_room = room_behind two w v so₂ (middle_bytes f.second) three refl three_fit

        module _ (x : Writer ℕ) (r : x ≡ wrote (middle_bytes f.second) v) where
          so₃ : x ≡ wrote three w
          so₃ = wrote_behind two w v so₂ (middle_bytes f.second) three refl three_fit x r

          pub piece_room : Room (length (piece_bytes text bytes value f.b)) x
          piece_room = room_behind three w x so₃ (piece_bytes text bytes value f.b) four refl four_fit

          module _ (y : Writer ℕ) (s : y ≡ wrote (piece_bytes text bytes value f.b) x) where
            so₄ : y ≡ wrote four w
            so₄ = wrote_behind three w x so₃ (piece_bytes text bytes value f.b) four refl four_fit y s

            pub ending_room : Room (length (ending_bytes value f.ending)) y
            unfolding frame_bytes
            ending_room = room_behind four w y so₄ (ending_bytes value f.ending) (frame_bytes text bytes value f) refl room

            pub frame_wrote : (z : Writer ℕ) → z ≡ wrote (ending_bytes value f.ending) y → z ≡ wrote (frame_bytes text bytes value f) w
            unfolding frame_bytes
            frame_wrote = wrote_behind four w y so₄ (ending_bytes value f.ending) (frame_bytes text bytes value f) refl room

pub ruleset put_frame_laws = (room_as, wrote_as, handed_at, handed_back, head_room, text_room, middle_room, piece_room, ending_room, frame_wrote)

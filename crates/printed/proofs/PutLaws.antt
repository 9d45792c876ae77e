-- The lines of a listing, written one behind the other. Assumes nothing.
use Prim.Native.Nat.{ℕ, ◌+◌, ◌-◌, ◌≤◌, ◌^◌, ◌<◌}
use mathlib.Core.Path.{◌≡◌, refl}
use mathlib.Core.List.{List, [], ◌∷◌, ◌++◌}
use native.Mathlib.Omega.{arith}
use lib.ListN.{length, length-append}
use Rattle.text.specs.Base.{LF}
use Rattle.text.specs.Literal.{utf8}
use Rattle.text.specs.Unicode.{encoded}
use Rattle.text.proofs.LiteralLaws.{codes}
use Rattle.wire.specs.Operations.{operation}
use Rattle.version.specs.declared.ProtocolVersion.{ProtocolVersion}
use Rattle.script.specs.Refusals.{reason_number}
use Rattle.script.specs.declared.records.Entry.{Entry}
use Rattle.script.specs.declared.records.Refusal.{Refusal}
use Rattle.script.specs.declared.records.Script.{Script}
use Rattle.values.specs.Decimal.{decimal}
use Rattle.written.specs.declared.Writer.{Writer}
use Rattle.written.specs.Writing.{Room, wrote}
use Rattle.written.proofs.WriterLaws.{wrote_at, room_left, wrote_behind}
use Rattle.writing.proofs.DecimalLaws.{decimal-length}
use Rattle.call_ops.specs.CallOps.{op_of}
use Rattle.printed.specs.Listing.{after, version_words, header_line, entry_line, refusal_line}

-- w writes xs, which are at most so many bytes, and is then v
abbrev pub Put : (xs : List ℕ) (most : ℕ) (w v : Writer ℕ) → Type 0
Put xs most w v = (v ≡ wrote xs w) × (v.at ≤ w.at + most)

module _ (xs : List ℕ) (m : ℕ) (w v : Writer ℕ) (p : Put xs m w v) where
  size : length xs ≤ m
  size = omega (arith, wrote_at xs w v p.0, p.1)

  -- there is room for k more
  pub put_room : (k : ℕ) → Room (m + k) w → Room k v
  put_room k h = room_left xs w v p.0 k (omega (arith, size))

  -- ys behind xs
  pub put_then : (ys : List ℕ) (k : ℕ) (u : Writer ℕ) → Put ys k v u → Room (m + k) w → Put (xs ++ ys) (m + k) w u
  put_then ys k u q h = (
    wrote_behind xs w v p.0 ys (xs ++ ys) refl (omega (arith, size, length-append xs ys, wrote_at ys v u q.0, q.1)) u q.0,
    omega (arith, p.1, q.1),
  )

-- a line ends
line_put : (xs : List ℕ) (m : ℕ) (w v u : Writer ℕ) → Put xs m w v → u ≡ wrote (LF ∷ []) v → Room (m + 1) w → Put (xs ++ (LF ∷ [])) (m + 1) w u
line_put xs m w v u p q h = put_then xs m w v p (LF ∷ []) 1 u (q, omega (arith, wrote_at (LF ∷ []) v u q)) h

module _ (x : ProtocolVersion) (w a : Writer ℕ) (room : Room 49 w) (p : Put (codes "version " ++ decimal x.major) 28 w a) where
  pub minor_room : Room 21 a
  minor_room = put_room _ 28 w a p 21 room

  pub version_put : (b : Writer ℕ) → Put (codes "." ++ decimal x.minor) 21 a b → Put (version_words x) 49 w b
  unfolding version_words after utf8 encoded
  version_put b q = put_then _ 28 w a p _ 21 b q room

module _ (s : Script) (w a : Writer ℕ) (room : Room 139 w) (p : Put (version_words s.preamble.protocol_version) 49 w a) where
  pub handshake_room : Room 31 a
  handshake_room = omega (arith, put_room _ 49 w a p 90 room)

  module _ (b : Writer ℕ) (q : Put (codes " handshake " ++ decimal s.preamble.expects.count) 31 a b) where
    to_handshake : Put (version_words s.preamble.protocol_version ++ (codes " handshake " ++ decimal s.preamble.expects.count)) 80 w b
    to_handshake = put_then _ 49 w a p _ 31 b q (omega arith)

    pub entries_room : Room 29 b
    entries_room = omega (arith, put_room _ 80 w b to_handshake 59 room)

    module _ (d : Writer ℕ) (r : Put (codes " entries " ++ decimal s.counts.entries) 29 b d) where
      to_entries : Put (version_words s.preamble.protocol_version ++ (codes " handshake " ++ decimal s.preamble.expects.count) ++ (codes " entries " ++ decimal s.counts.entries)) 109 w d
      to_entries = put_then _ 80 w b to_handshake _ 29 d r (omega arith)

      pub expects_room : Room 29 d
      expects_room = omega (arith, put_room _ 109 w d to_entries 30 room)

      module _ (f : Writer ℕ) (t : Put (codes " expects " ++ decimal (s.counts.expectations - s.preamble.expects.count)) 29 d f) where
        to_expects : Put
            (version_words s.preamble.protocol_version
            ++ (codes " handshake " ++ decimal s.preamble.expects.count)
            ++ (codes " entries " ++ decimal s.counts.entries)
            ++ (codes " expects " ++ decimal (s.counts.expectations - s.preamble.expects.count)))
            138
            w
            f
        to_expects = put_then _ 109 w d to_entries _ 29 f t (omega arith)

        pub header_end : Room 1 f
        header_end = put_room _ 138 w f to_expects 1 room

        pub header_put : (g : Writer ℕ) → g ≡ wrote (LF ∷ []) f → Put (header_line s) 139 w g
        unfolding header_line after utf8 encoded
        header_put g e = line_put _ 138 w f g to_expects e room

-- n is the code of the operation
module _ (e : Entry) (n : ℕ) (k : n ≡ (operation (op_of e.op_call)).code) (w a : Writer ℕ) (room : Room 63 w) (p : Put (decimal e.line) 20 w a) where
  pub code_room : Room 21 a
  code_room = omega (arith, put_room _ 20 w a p 43 room)

  module _ (b : Writer ℕ) (q : Put (codes " " ++ decimal n) 21 a b) where
    to_code : Put (decimal e.line ++ (codes " " ++ decimal n)) 41 w b
    to_code = put_then _ 20 w a p _ 21 b q (omega arith)

    pub count_room : Room 21 b
    count_room = omega (arith, put_room _ 41 w b to_code 22 room)

    module _ (d : Writer ℕ) (r : Put (codes " " ++ decimal e.expects.count) 21 b d) where
      to_count : Put (decimal e.line ++ (codes " " ++ decimal n) ++ (codes " " ++ decimal e.expects.count)) 62 w d
      to_count = put_then _ 41 w b to_code _ 21 d r (omega arith)

      pub entry_end : Room 1 d
      entry_end = put_room _ 62 w d to_count 1 room

      pub entry_put : (f : Writer ℕ) → f ≡ wrote (LF ∷ []) d → Put (entry_line e) 63 w f
      unfolding entry_line after utf8 encoded
      entry_put f t = rw (← k) (line_put _ 62 w d f to_count t room)

-- n is the number of the reason
module _ (q : Refusal) (n : ℕ) (k : n ≡ reason_number q.reason) (w a : Writer ℕ) (room : Room 55 w) (p : Put (codes "refused " ++ decimal n) 28 w a) where
  pub place_room : Room 26 a
  place_room = omega (arith, put_room _ 28 w a p 27 room)

  module _ (b : Writer ℕ) (r : Put (codes " line " ++ decimal q.line) 26 a b) where
    to_place : Put (codes "refused " ++ decimal n ++ (codes " line " ++ decimal q.line)) 54 w b
    to_place = put_then _ 28 w a p _ 26 b r (omega arith)

    pub refusal_end : Room 1 b
    refusal_end = put_room _ 54 w b to_place 1 room

    pub refusal_put : (d : Writer ℕ) → d ≡ wrote (LF ∷ []) b → Put (refusal_line q) 55 w d
    unfolding refusal_line after utf8 encoded
    refusal_put d t = rw (← k) (line_put _ 54 w b d to_place t room)

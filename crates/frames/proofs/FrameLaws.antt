-- What a frame comes to is the message of document 01. Assumes nothing.
use Rattle.std.specs.Prelude.{None, Option, Some}
use Prim.Native.Nat.{ℕ}
use mathlib.Core.Path.{◌≡◌, refl, sym, ap, ◌∙◌}
use mathlib.Core.Bool.{Bool, true, false}
use mathlib.Core.List.{List, [], ◌++◌, append_assoc, append-nil}
use native.Mathlib.Omega.{arith}
use lib.IntN.{ℤ}
use Rattle.text.specs.Unicode.{encoded}
use Rattle.text.specs.Literal.{utf8}
use Rattle.values.specs.Decimal.{decimal}
use Rattle.script.specs.declared.records.Place.{Place}
use Rattle.script.specs.declared.response.DaemonResponse.{DaemonResponse}
use Rattle.script.specs.declared.response.HandshakeInfo.{HandshakeInfo}
use Rattle.script.specs.declared.records.Matcher.{Matcher}
use Rattle.script.specs.declared.records.Matcher.TheVariants.{Exact, Regex, GreaterThan, LessThan, GreaterOrEqual, LessOrEqual}
use Rattle.script.specs.declared.records.Expect.{Expect}
use Rattle.script.specs.declared.records.Expect.TheVariants.{Terminal, Result, ResultField, Error, StderrCount, Daemon, Trust, ServerFeatures}
use Rattle.verdicts.specs.declared.Verdict.{Verdict}
use Rattle.verdicts.specs.declared.Verdict.TheVariants.{Passed, Failed, Undecided}
use Rattle.verdicts.specs.Expected as expected
use Rattle.verdicts.specs.Told.{Response, Info, greeting, reply}
use Rattle.verdicts.specs.Lookup.{daemon_text, trust_text, features_text, looked, looked_in, told_in, present_bytes}
use Rattle.verdicts.specs.Decisions.{passed_if, ordered, decides}
use Rattle.verdicts.specs.Verdicts.{named_by, valued, verdict}
use Rattle.verdicts.specs.Held.{text_at, matching_of, expected_of, terminal_bytes, response_of, info_of}
use Rattle.verdicts.specs.Messages as Messages
use Rattle.verdicts.specs.Messages.{integer, shown, says_of, value_says, heading, error_heading, result_says, terminal_says, misplaced_in_entry, misplaced_in_preamble, entry_message, handshake_message}
use Rattle.frames.specs.Words.{head_bytes, middle_bytes}
use Rattle.frames.specs.declared.words.Head.TheVariants as heads
use Rattle.frames.specs.declared.words.Middle.TheVariants as middles
use Rattle.frames.specs.declared.frames.Piece.TheVariants as pieces
use Rattle.frames.specs.declared.frames.Frame.{Frame}
use Rattle.frames.specs.declared.frames.Heading.{Heading}
use Rattle.frames.specs.Frames.{nowhere, piece_bytes, ending_bytes, frame_bytes, shown_as, word_frame, no_frame, undecided_frame, failed_frame, valued_frame, terminal_frame, is_missing, missing_or, headed, alone, error_headed, entry_frame, handshake_frame}

-- ---- words and pieces in a row

nothing_behind : (l : List ℕ) → l ++ [] ++ [] ≡ l
nothing_behind l = append-nil (l ++ []) ∙ append-nil l

-- a word that is two, in front of a piece
split_front : (f e s p g : List ℕ) → f ++ (e ++ s) ++ p ++ g ≡ f ++ e ++ (s ++ p) ++ g
split_front f e s p g = simp append_assoc

-- and behind it too
split_both : (f e s p t g : List ℕ) → f ++ (e ++ s) ++ p ++ (t ++ g) ≡ f ++ e ++ (s ++ p ++ t) ++ g
split_both f e s p t g = simp append_assoc

-- ---- who can be undecided

never_undecided : (b : Bool) → passed_if b ≡ Undecided → ⊥
unfolding passed_if
never_undecided true e = let z : ◌≡◌ {A = ℕ} 0 1 = cc in omega arith
never_undecided false e = let z : ◌≡◌ {A = ℕ} 0 1 = cc in omega arith

module _ (text bytes value : List ℕ) where
  -- what a heading of words and a field comes to
  abbrev heading_of : Heading → Messages.Heading
  heading_of h = record {
    passed = head_bytes h.passed ++ text_at text h.field ++ middle_bytes h.between;
    failed = head_bytes h.failed ++ text_at text h.field;
  }

  passed-says : (h : Heading) (m : Matcher) → frame_bytes text bytes value (valued_frame h m Passed) ≡ says_of (heading_of h) (matching_of text m) value Passed
  unfolding frame_bytes valued_frame word_frame head_bytes middle_bytes piece_bytes ending_bytes says_of
  passed-says h m = append-nil (head_bytes h.passed ++ text_at text h.field ++ middle_bytes h.between ++ value)

  -- in front of `expected`
  abbrev front : Heading → List ℕ
  front h = head_bytes h.failed ++ text_at text h.field

  failed-says : (h : Heading) (m : Matcher) → frame_bytes text bytes value (valued_frame h m Failed) ≡ says_of (heading_of h) (matching_of text m) value Failed
  unfolding frame_bytes valued_frame failed_frame shown_as head_bytes middle_bytes piece_bytes ending_bytes says_of matching_of shown utf8 encoded
  failed-says h (Exact p) = sym (append_assoc (front h ++ utf8 ": expected " ++ text_at text p) (utf8 ", got ") value)
  failed-says h (Regex p) = sym (append_assoc (front h ++ utf8 ": expected /" ++ text_at text p) (utf8 "/, got ") value) ∙ ap (λ (l : List ℕ). l ++ value) (split_both (front h) (utf8 ": expected ") (utf8 "/") (text_at text p) (utf8 "/") (utf8 ", got "))
  failed-says h (GreaterThan n) = sym (append_assoc (front h ++ utf8 ": expected > " ++ integer n) (utf8 ", got ") value) ∙ ap (λ (l : List ℕ). l ++ value) (split_front (front h) (utf8 ": expected ") (utf8 "> ") (integer n) (utf8 ", got "))
  failed-says h (LessThan n) = sym (append_assoc (front h ++ utf8 ": expected < " ++ integer n) (utf8 ", got ") value) ∙ ap (λ (l : List ℕ). l ++ value) (split_front (front h) (utf8 ": expected ") (utf8 "< ") (integer n) (utf8 ", got "))
  failed-says h (GreaterOrEqual n) = sym (append_assoc (front h ++ utf8 ": expected >= " ++ integer n) (utf8 ", got ") value) ∙ ap (λ (l : List ℕ). l ++ value) (split_front (front h) (utf8 ": expected ") (utf8 ">= ") (integer n) (utf8 ", got "))
  failed-says h (LessOrEqual n) = sym (append_assoc (front h ++ utf8 ": expected <= " ++ integer n) (utf8 ", got ") value) ∙ ap (λ (l : List ℕ). l ++ value) (split_front (front h) (utf8 ": expected ") (utf8 "<= ") (integer n) (utf8 ", got "))

  ordered_decided : (o : Option ℤ) (f : ℤ → Bool) → ordered f o ≡ Undecided → ⊥
  unfolding ordered
  ordered_decided None f e = let z : ◌≡◌ {A = ℕ} 0 1 = cc in omega arith
  ordered_decided (Some v) f e = never_undecided (f v) e

  undecided_says : (h : Heading) (m : Matcher) → decides (matching_of text m) value ≡ Undecided → frame_bytes text bytes value (valued_frame h m Undecided) ≡ says_of (heading_of h) (matching_of text m) value Undecided
  unfolding frame_bytes valued_frame undecided_frame word_frame head_bytes middle_bytes piece_bytes ending_bytes says_of matching_of shown utf8 encoded decides
  undecided_says h (Exact p) e = absurd (never_undecided _ e)
  undecided_says h (Regex p) e = nothing_behind _ ∙ split_front [] (utf8 "undecided: ") (utf8 "/") (text_at text p) (utf8 "/")
  undecided_says h (GreaterThan n) e = absurd (ordered_decided _ _ e)
  undecided_says h (LessThan n) e = absurd (ordered_decided _ _ e)
  undecided_says h (GreaterOrEqual n) e = absurd (ordered_decided _ _ e)
  undecided_says h (LessOrEqual n) e = absurd (ordered_decided _ _ e)

  -- the frame of a value is what document 01 says of it
  valued-says : (h : Heading) (m : Matcher) (v : Verdict) → v ≡ decides (matching_of text m) value → frame_bytes text bytes value (valued_frame h m v) ≡ says_of (heading_of h) (matching_of text m) value v
  valued-says h m Passed e = passed-says h m
  valued-says h m Failed e = failed-says h m
  valued-says h m Undecided e = undecided_says h m (sym e)

-- ---- whole messages

module _ (text bytes : List ℕ) where
  terminal-says : (value : List ℕ) (name got : Place) (v : Verdict) → frame_bytes text bytes value (terminal_frame name got v) ≡ terminal_says (text_at text name) (text_at bytes got) v
  unfolding frame_bytes terminal_frame word_frame no_frame head_bytes middle_bytes piece_bytes ending_bytes terminal_says utf8 encoded
  terminal-says value name got Passed = nothing_behind _ ∙ append-nil _
  terminal-says value name got Failed = append-nil _
  terminal-says value name got Undecided = refl

  -- a value that may be missing: gone is what is said then
  missing-says : (o : Option (List ℕ)) (absent : Frame) (gone : List ℕ) (h : Heading) (m : Matcher) (missing : Bool) (v : Verdict)
      → frame_bytes text bytes [] absent ≡ gone → missing ≡ is_missing o → v ≡ valued (matching_of text m) o
      → frame_bytes text bytes (present_bytes o) (missing_or missing absent h m v) ≡ value_says (heading_of text bytes (present_bytes o) h) gone (matching_of text m) o
  unfolding is_missing present_bytes missing_or valued value_says
  missing-says None absent gone h m missing v g p e = rw p g
  missing-says (Some value) absent gone h m missing v g p e = rw p (valued-says text bytes value h m v e ∙ ap (says_of (heading_of text bytes value h) (matching_of text m) value) e)

  -- a value that is there
  present_says : (value : List ℕ) (h : Heading) (m : Matcher) (v : Verdict) → v ≡ valued (matching_of text m) (Some value)
      → frame_bytes text bytes value (valued_frame h m v) ≡ value_says (heading_of text bytes value h) [] (matching_of text m) (Some value)
  unfolding valued value_says
  present_says value h m v e = valued-says text bytes value h m v e ∙ ap (says_of (heading_of text bytes value h) (matching_of text m) value) e

  module _ (lists : List (List ℕ)) (r : DaemonResponse) where
    abbrev R : Response
    R = response_of bytes lists r

    terminal-is : (p : Place) (v : Verdict) → v ≡ named_by (reply R) (text_at text p)
        → frame_bytes text bytes (present_bytes (looked_in R (expected.terminal (text_at text p)))) (terminal_frame p r.terminal v) ≡ terminal_says (text_at text p) R.terminal (named_by (reply R) (text_at text p))
    unfolding response_of terminal_bytes
    terminal-is p v e = terminal-says (present_bytes (looked_in R (expected.terminal (text_at text p)))) p r.terminal v ∙ ap (terminal_says (text_at text p) (text_at bytes r.terminal)) e

    pub entry_says : (e : Expect) (missing : Bool) (v : Verdict) → missing ≡ is_missing (looked_in R (expected_of text e)) → v ≡ verdict (reply R) (expected_of text e)
        → frame_bytes text bytes (present_bytes (looked_in R (expected_of text e))) (entry_frame e missing v r.terminal) ≡ entry_message R (expected_of text e)
    unfolding expected_of entry_frame entry_message verdict looked looked_in headed error_headed head_bytes middle_bytes piece_bytes ending_bytes heading error_heading result_says misplaced_in_entry frame_bytes word_frame utf8 present_bytes encoded
    entry_says (Terminal p) missing v k e = terminal-is p v e
    entry_says (Result m) missing v k e = missing-says (looked_in R (expected.result (matching_of text m))) (alone heads.NoResult) _ (headed heads.ResultWord nowhere) m missing v refl k e
    entry_says (ResultField p m) missing v k e =
        missing-says
        (looked_in R (expected.result_field (text_at text p) (matching_of text m)))
        (word_frame heads.NoField p middles.NotFound pieces.Nothing)
        _
        (headed heads.ResultDot p)
        m
        missing
        v
        (nothing_behind _)
        k
        e
    entry_says (Error m) missing v k e = missing-says (looked_in R (expected.error (matching_of text m))) (alone heads.NoError) _ error_headed m missing v refl k e
    entry_says (StderrCount m) missing v k e = present_says (decimal R.stderr_count) (headed heads.CountWord nowhere) m v e
    entry_says (Daemon m) missing v k e = refl
    entry_says (Trust m) missing v k e = refl
    entry_says (ServerFeatures m) missing v k e = refl

  module _ (lists : List (List ℕ)) (i : HandshakeInfo) where
    abbrev I : Info
    I = info_of bytes lists i

    pub handshake-says : (e : Expect) (v : Verdict) → v ≡ verdict (greeting I) (expected_of text e)
        → frame_bytes text bytes (present_bytes (told_in I (expected_of text e))) (handshake_frame e v) ≡ handshake_message I (expected_of text e)
    unfolding expected_of handshake_frame handshake_message verdict looked told_in headed head_bytes middle_bytes piece_bytes ending_bytes heading misplaced_in_preamble frame_bytes word_frame utf8 present_bytes encoded
    handshake-says (Terminal p) v e = refl
    handshake-says (Result m) v e = refl
    handshake-says (ResultField p m) v e = refl
    handshake-says (Error m) v e = refl
    handshake-says (StderrCount m) v e = refl
    handshake-says (Daemon m) v e = present_says (daemon_text I) (headed heads.DaemonWord nowhere) m v e
    handshake-says (Trust m) v e = present_says (trust_text I) (headed heads.TrustWord nowhere) m v e
    handshake-says (ServerFeatures m) v e = present_says (features_text I) (headed heads.FeaturesWord nowhere) m v e

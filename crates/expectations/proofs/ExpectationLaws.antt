-- Laws of expectations for the proofs of code: what an expectation is, from its first byte and the word that was found there. For `search` to use.
-- Assumes nothing.
use Rattle.std.specs.Prelude.{Err, None, Ok, Option, Some}
use Prim.Native.Nat.{ℕ, ◌+◌}
use Prim.Native.String.{String}
use mathlib.Core.Path.{◌≡◌, refl, sym, ◌∙◌}
use mathlib.Core.Bool.{Bool, true, false}
use mathlib.Core.List.{List, [], ◌∷◌}
use lib.ListN.{length, get_or}
use borrow.Author.Tests.{ne_eqb}
use Rattle.text.specs.Parts.{span, starts_with}
use Rattle.text.specs.declared.parts.Span.{Span}
use Rattle.text.proofs.LiteralLaws.{codes}
use Rattle.script.specs.Answers.{first_of, Answer}
use Rattle.script.specs.Pieces.{place, bytes, behind, trim, cut, cut_into}
use Rattle.script.specs.Expectations.{COLON, about, matcher, matching, terminal, field, result, expectation}
use Rattle.script.specs.Roles.{expecting, expect_role, refused}
use Rattle.script.specs.declared.records.Place.{Place}
use Rattle.script.specs.declared.records.Matcher.{Matcher}
use Rattle.script.specs.declared.records.Expect.{Expect}
use Rattle.script.specs.declared.records.Expect.TheVariants as expect
use Rattle.script.specs.declared.roles.Role.{Role}
use Rattle.expectations.specs.ExpectAnswers.{expect_about, about_in, about_word, by_sign}
use Rattle.expectations.specs.declared.Subject.{Subject}
use Rattle.expectations.specs.declared.Subject.TheVariants.{Result, Field, Error, StderrCount, Daemon, Trust, ServerFeatures}
use Rattle.pieces.proofs.BehindLaws.{fronts, front_behind, front_is, behind-some, behind-none}
use Rattle.script.specs.declared.refusals.Reason.{Reason}
use Rattle.script.specs.declared.refusals.Reason.TheVariants.{UnknownExpectation}

-- what stands behind a word: b is the answer of `Piece::starts_with`
module _ (text : List ℕ) (r : Span) (word : List ℕ) (s : Subject) (b : Bool) (e : b ≡ starts_with word (bytes text r)) where
  pub word_none : b ≡ false → Err UnknownExpectation ≡ about_word text r word s
  unfolding about_word
  word_none f = rw (sym e ∙ f)

  pub word_some : b ≡ true → (a : Answer Expect) → a ≡ about_in text (span (r.start + length word) r.end) s → a ≡ about_word text r word s
  unfolding about_word
  word_some t a h = rw (sym e ∙ t) h

-- two attempts, the second only where the first fails, and nothing behind them
either_sign : (o p : Option (Answer Expect)) → first_of (elim o [ None ↦ p | Some e ↦ Some e ] ∷ None ∷ None ∷ None ∷ []) (Err UnknownExpectation) ≡ first_of (o ∷ p ∷ []) (Err UnknownExpectation)
unfolding first_of
either_sign None None = refl
either_sign None (Some a) = refl
either_sign (Some a) p = refl

by_sign_lem : (text : List ℕ) (rest q : Span) → q ≡ trim text rest → first_of (result text (Some rest) ∷ None ∷ None ∷ None ∷ []) (Err UnknownExpectation) ≡ by_sign text q
unfolding result by_sign
by_sign_lem text rest q k = rw k (either_sign (matching text expect.Result (behind text ":" (trim text rest))) (field text (behind text "." (trim text rest))))

module _ (text : List ℕ) (r : Span) where
  module _ (x : ℕ) (e : x ≡ get_or (bytes text r) 0 0) where
    no : (w : String) → fronts x (codes w) ≡ false → behind text w r ≡ None
    no = front_behind text r x e

    pub no_form : (x ≡ 58 → ⊥) → (x ≡ 114 → ⊥) → (x ≡ 101 → ⊥) → (x ≡ 115 → ⊥) → (x ≡ 100 → ⊥) → (x ≡ 116 → ⊥) → Err UnknownExpectation ≡ expectation text r
    unfolding expectation terminal matching result first_of
    no_form c r e s d t =
        rw (
          no ":" (ne_eqb x 58 c),
          no "stderr.count:" (ne_eqb x 115 s),
          no "error:" (ne_eqb x 101 e),
          no "result" (ne_eqb x 114 r),
          no "daemon:" (ne_eqb x 100 d),
          no "trust:" (ne_eqb x 116 t),
          no "server_features:" (ne_eqb x 115 s),
        )

  pub a_terminal : get_or (bytes text r) 0 0 ≡ 58 → (t : Span) → t ≡ trim text (span (r.start + 1) r.end) → (l : Place) → l ≡ place t → Ok (expect.Terminal l) ≡ expectation text r
  unfolding expectation terminal first_of
  a_terminal x t e l k = rw (k, e, front_is text r 58 (sym x) ":" 58 refl refl refl)

  -- ---- the matcher behind a word

  -- one of several attempts, none before it and none behind it
  abbrev worded : (w : String) (s : Subject) → Option (Answer Expect)
  worded w s = matching text (expect_about s) (behind text w r)

  word_is : (w : String) (s : Subject) (os : List (Option (Answer Expect))) → first_of os (Err UnknownExpectation) ≡ Err UnknownExpectation → about_word text r (codes w) s ≡ first_of (worded w s ∷ os) (Err UnknownExpectation)
  unfolding about_word about_in matching first_of
  word_is w s os l = go (starts_with (codes w) (bytes text r)) refl
    where
      go : (b : Bool) → b ≡ starts_with (codes w) (bytes text r) → about_word text r (codes w) s ≡ first_of (worded w s ∷ os) (Err UnknownExpectation)
      go true e = rw (behind-some text r w true e refl, ← e)
      go false e = rw (behind-none text r w false e refl, ← e, l)

  module _ (a : Answer Expect) where
    pub a_daemon : get_or (bytes text r) 0 0 ≡ 100 → a ≡ about_word text r (codes "daemon:") Daemon → a ≡ expectation text r
    unfolding expectation terminal matching result first_of expect_about
    a_daemon x h = h ∙ word_is "daemon:" Daemon (None ∷ None ∷ []) refl ∙ sym (simp (no 100 (sym x)))

    pub an_error : get_or (bytes text r) 0 0 ≡ 101 → a ≡ about_word text r (codes "error:") Error → a ≡ expectation text r
    unfolding expectation terminal matching result first_of expect_about
    an_error x h = h ∙ word_is "error:" Error (None ∷ None ∷ None ∷ None ∷ []) refl ∙ sym (simp (no 101 (sym x)))

    pub a_trust : get_or (bytes text r) 0 0 ≡ 116 → a ≡ about_word text r (codes "trust:") Trust → a ≡ expectation text r
    unfolding expectation terminal matching result first_of expect_about
    a_trust x h = h ∙ word_is "trust:" Trust (None ∷ []) refl ∙ sym (simp (no 116 (sym x)))

    module _ (x : get_or (bytes text r) 0 0 ≡ 115) (b : Bool) (e : b ≡ starts_with (codes "stderr.count:") (bytes text r)) where
      pub a_count : b ≡ true → a ≡ about_in text (span (r.start + 13) r.end) StderrCount → a ≡ expectation text r
      unfolding expectation terminal matching first_of expect_about about_in
      a_count t h = h ∙ sym (simp (no 115 (sym x), behind-some text r "stderr.count:" b e t))

      pub some-features : b ≡ false → a ≡ about_word text r (codes "server_features:") ServerFeatures → a ≡ expectation text r
      unfolding expectation terminal matching result first_of expect_about
      some-features f h = h ∙ word_is "server_features:" ServerFeatures [] refl ∙ sym (simp (no 115 (sym x), behind-none text r "stderr.count:" b e f))

  -- ---- behind the word `result`

  module _ (x : get_or (bytes text r) 0 0 ≡ 114) (b : Bool) (e : b ≡ starts_with (codes "result") (bytes text r)) where
    pub no_result : b ≡ false → Err UnknownExpectation ≡ expectation text r
    unfolding expectation terminal matching result first_of
    no_result f = simp (no 114 (sym x), behind-none text r "result" b e f)

    pub a_result : b ≡ true → (q : Span) → q ≡ trim text (span (r.start + 6) r.end) → (a : Answer Expect) → a ≡ by_sign text q → a ≡ expectation text r
    unfolding expectation terminal matching first_of
    a_result t q k a h =
        h ∙ sym (simp (no 114 (sym x), behind-some text r "result" b e t) (by_sign_lem text (span (r.start + 6) r.end) q k))

module _ (text : List ℕ) (q : Span) (y : ℕ) (g : y ≡ get_or (bytes text q) 0 0) where
  pub a_field : y ≡ 46 → (a : Answer Expect) → a ≡ first_of (field text (behind text "." q) ∷ []) (Err UnknownExpectation) → a ≡ by_sign text q
  unfolding by_sign matching first_of
  a_field d a h = rw (front_behind text q 46 (sym d ∙ g) ":" refl) h

  pub no_sign : (y ≡ 46 → ⊥) → (y ≡ 58 → ⊥) → Err UnknownExpectation ≡ by_sign text q
  unfolding by_sign matching field first_of
  no_sign d c = rw (front_behind text q y g ":" (ne_eqb y 58 c), front_behind text q y g "." (ne_eqb y 46 d))

  pub a_colon : y ≡ 58 → (a : Answer Expect) → a ≡ about_in text (span (q.start + 1) q.end) Result → a ≡ by_sign text q
  unfolding by_sign matching first_of about_in expect_about
  a_colon c a h = rw (front_is text q y g ":" 58 refl c refl) h

-- a field, behind its dot: its name and its matcher stand around the colon
module _ (text : List ℕ) (q : Span) (x : get_or (bytes text q) 0 0 ≡ 46) where
  pub no_name : None ≡ cut text COLON (span (q.start + 1) q.end) → Err UnknownExpectation ≡ first_of (field text (behind text "." q) ∷ []) (Err UnknownExpectation)
  unfolding field first_of
  no_name e = rw (front_is text q 46 (sym x) "." 46 refl refl refl, ← e)

  pub a_name : (name rest : Span) → Some (cut_into name rest) ≡ cut text COLON (span (q.start + 1) q.end) → (l : Place) → l ≡ place (trim text name)
      → (a : Answer Expect) → a ≡ about_in text rest (Field l) → a ≡ first_of (field text (behind text "." q) ∷ []) (Err UnknownExpectation)
  unfolding field matching first_of about_in expect_about
  a_name name rest e l k a h = h ∙ rw (front_is text q 46 (sym x) "." 46 refl refl refl, ← e, k)

-- a line that begins with `expect`
module _ (text : List ℕ) (t : Span) (b : Bool) (e : b ≡ starts_with (codes "expect") (bytes text t)) where
  pub no_expect : b ≡ false → refused UnknownExpectation ≡ expect_role text t
  unfolding expect_role
  no_expect f = rw (behind-none text t "expect" b e f, expect_role)

  pub expects : b ≡ true → (q : Span) → q ≡ trim text (span (t.start + 6) t.end) → (a : Answer Expect) → a ≡ expectation text q → (r : Role) → r ≡ expecting a → r ≡ expect_role text t
  unfolding expect_role
  expects y q k a h r l = rw (behind-some text t "expect" b e y, ← k, ← h, l, expect_role)

pub ruleset expect_words = (no_form, a_terminal, a_daemon, an_error, a_trust, a_count, some-features)

pub ruleset result_words = (no_result, a_result)

pub ruleset result_signs = (a_field, no_sign, a_colon)

pub ruleset field_words = (a_name, no_name)

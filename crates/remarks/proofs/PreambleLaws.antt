-- Laws of the preamble for the proofs of code: what a line of it is, from its first byte and the words that were found there. For `search` to use.
-- Assumes nothing.
use Prim.Native.Nat.{ℕ, suc, ◌+◌, ◌-◌, ◌≤◌, ◌<◌}
use Prim.Native.String.{String}
use mathlib.Core.Path.{◌≡◌, refl, sym, ap, ◌∙◌}
use mathlib.Core.Bool.{Bool, true, false}
use mathlib.Core.List.{List, [], ◌∷◌, ◌++◌}
use native.Mathlib.Omega.{arith}
use lib.Dec.{eqb, ltb}
use lib.ListN.{length, get_or}
use borrow.Author.Tests.{eq-eqb, ltb-true, ne_eqb}
use Rattle.std.specs.Prelude.{if◌then◌else◌, None, Option, Some}
use Rattle.text.specs.Base.{◌&◌}
use Rattle.text.specs.Parts.{span, starts_with, same_bytes}
use Rattle.text.specs.declared.parts.Span.{Span}
use Rattle.text.proofs.Scan.{rest_more, never, both, and_true}
use Rattle.text.proofs.LiteralLaws.{codes, spells_as}
use Rattle.version.specs.Version.{version}
use Rattle.version.specs.declared.ProtocolVersion.{ProtocolVersion}
use Rattle.script.specs.Answers.{first_of}
use Rattle.script.specs.Pieces.{bytes, is_empty, is, begins, behind, trim}
use Rattle.script.specs.Roles.{step, expect_role, behind_signs, version_role, saying, comment_role, protocol_role, word_role, preamble_expect, preamble_role, preamble_step, refused}
use Rattle.script.specs.declared.roles.Key.{Key}
use Rattle.script.specs.declared.roles.Saying.TheVariants.{Known}
use Rattle.script.specs.declared.roles.Where.TheVariants.{InPreamble, Outside}
use Rattle.script.specs.declared.roles.Role.{Role}
use Rattle.script.specs.declared.roles.Role.TheVariants.{Nothing, Says}
use Rattle.remarks.specs.PreambleSaid.{said}
use Rattle.pieces.proofs.BehindLaws.{begins-is, behind-some, behind-none, one_front, front_begins, front_behind}
use Rattle.script.specs.declared.refusals.Reason.TheVariants.{UnexpectedPreambleLine}

-- ---- the signs at the front of a comment

-- at a place inside, the bytes of a piece are the byte there and those from the next place; at its end there are none
pub bytes_more : (text : List ℕ) (i end : ℕ) → i < end → end ≤ length text → bytes text (span i end) ≡ get_or text i 0 ∷ bytes text (span (i + 1) end)
unfolding bytes
bytes_more text i end h l = let e : end - i ≡ suc (end - (i + 1)) = omega arith in rw (rest_more text i (omega arith), e)

pub bytes-none : (text : List ℕ) (i end : ℕ) → end ≤ i → bytes text (span i end) ≡ []
unfolding bytes
bytes-none text i end h = let e : end - i ≡ 0 = omega arith in rw e

module _ (text : List ℕ) (i end whole : ℕ) (e : behind_signs i (bytes text (span i end)) ≡ whole) where
  pub signs_over : end ≤ i → i ≡ whole
  unfolding behind_signs
  signs_over h = rw (bytes-none text i end h) at e

  module _ (h : i < end) (l : end ≤ length text) where
    pub signs_end : (get_or text i 0 ≡ 35 → ⊥) → i ≡ whole
    unfolding behind_signs
    signs_end n = rw (bytes_more text i end h l, ne_eqb _ _ n) at e

    pub signs-on : get_or text i 0 ≡ 35 → behind_signs (i + 1) (bytes text (span (i + 1) end)) ≡ whole
    unfolding behind_signs
    signs-on x = rw (bytes_more text i end h l, eq-eqb _ _ x) at e

-- ---- what a comment says

module _ (text : List ℕ) (c : Span) (word : List ℕ) (k : Key) (r : Bool) (e : r ≡ starts_with word (bytes text c)) where
  pub said_none : r ≡ false → Nothing ≡ said text c word k
  unfolding said
  said_none f = rw (sym e ∙ f)

  pub said_some : r ≡ true → (v : Span) → v ≡ trim text (span (c.start + length word) c.end) → Says (Known k v) ≡ said text c word k
  unfolding said
  said_some t v q = rw (sym e ∙ t, q)

-- the only attempt, where those behind it fail
only : {A : Type 0} (o : Option A) (os : List (Option A)) (last : A) → first_of os last ≡ last → first_of (o ∷ os) last ≡ first_of (o ∷ []) last
unfolding first_of
only None os last e = e
only (Some a) os last e = refl

said-is : (text : List ℕ) (c : Span) (w : String) (k : Key) (b : Bool) → b ≡ starts_with (codes w) (bytes text c) → said text c (codes w) k ≡ first_of (saying text k (behind text w c) ∷ []) Nothing
unfolding said saying first_of
said-is text c w k true e = rw (behind-some text c w true e refl, ← e)
said-is text c w k false e = rw (behind-none text c w false e refl, ← e)

-- what a comment says, its signs taken off
abbrev comment_in : List ℕ → Span → Role
comment_in text c =
    first_of
    (saying text Key.DaemonVersion (behind text "daemon:" c)
    ∷ saying text Key.TrustStatus (behind text "trust:" c)
    ∷ saying text Key.ServerFeatures (behind text "server_features:" c)
    ∷ [])
    Nothing

module _ (text : List ℕ) (t : Span) (start : ℕ) (e : start ≡ behind_signs t.start (bytes text t)) (c : Span) (k : c ≡ trim text (span start t.end))
    (x : ℕ) (g : x ≡ get_or (bytes text c) 0 0) where
  comment_in_lem : comment_in text c ≡ comment_role text t
  unfolding comment_role
  comment_in_lem = ap (comment_in text) (k ∙ ap (λ (s : ℕ). trim text (span s t.end)) e)

  pub comment_none : (x ≡ 100 → ⊥) → (x ≡ 116 → ⊥) → (x ≡ 115 → ⊥) → Nothing ≡ comment_role text t
  unfolding saying first_of
  comment_none d u s =
      rw (
        front_behind text c x g "daemon:" (ne_eqb x 100 d),
        front_behind text c x g "trust:" (ne_eqb x 116 u),
        front_behind text c x g "server_features:" (ne_eqb x 115 s),
      ) at comment_in_lem

  pub comment_daemon : x ≡ 100 → (r : Role) → r ≡ said text c (codes "daemon:") Key.DaemonVersion → r ≡ comment_role text t
  unfolding saying first_of
  comment_daemon d r h =
      h
      ∙ said-is text c "daemon:" Key.DaemonVersion (starts_with (codes "daemon:") (bytes text c)) refl
      ∙ sym (only (saying text Key.DaemonVersion (behind text "daemon:" c)) (None ∷ None ∷ []) Nothing refl)
      ∙ (rw (front_behind text c 100 (sym d ∙ g) "trust:" refl, front_behind text c 100 (sym d ∙ g) "server_features:" refl) at comment_in_lem)

  pub comment_trust : x ≡ 116 → (r : Role) → r ≡ said text c (codes "trust:") Key.TrustStatus → r ≡ comment_role text t
  unfolding saying first_of
  comment_trust d r h =
      h
      ∙ said-is text c "trust:" Key.TrustStatus (starts_with (codes "trust:") (bytes text c)) refl
      ∙ sym (only (saying text Key.TrustStatus (behind text "trust:" c)) (None ∷ []) Nothing refl)
      ∙ (rw (front_behind text c 116 (sym d ∙ g) "daemon:" refl, front_behind text c 116 (sym d ∙ g) "server_features:" refl) at comment_in_lem)

  pub comment_features : x ≡ 115 → (r : Role) → r ≡ said text c (codes "server_features:") Key.ServerFeatures → r ≡ comment_role text t
  unfolding saying first_of
  comment_features d r h =
      h
      ∙ said-is text c "server_features:" Key.ServerFeatures (starts_with (codes "server_features:") (bytes text c)) refl
      ∙ (rw (front_behind text c 115 (sym d ∙ g) "daemon:" refl, front_behind text c 115 (sym d ∙ g) "trust:" refl) at comment_in_lem)

-- ---- versions and words

module _ (text : List ℕ) (v : Span) (a : Option ProtocolVersion) (q : a ≡ version (bytes text v)) where
  pub version_read : (w : ProtocolVersion) → a ≡ Some w → Says (Known Key.Protocol v) ≡ version_role (version (bytes text v)) v
  unfolding version_role
  version_read w e = rw (← q, e)

  pub version_bad : a ≡ None → Nothing ≡ version_role (version (bytes text v)) v
  unfolding version_role
  version_bad e = rw (← q, e)

module _ (text : List ℕ) (t : Span) where
  module _ (x : get_or (bytes text t) 0 0 ≡ 112) (b : Bool) (e : b ≡ starts_with (codes "protocol:") (bytes text t)) where
    pub no_protocol : b ≡ false → refused UnexpectedPreambleLine ≡ word_role text t
    unfolding word_role protocol_role saying first_of
    no_protocol f = rw (behind-none text t "protocol:" b e f, front_behind text t 112 (sym x) "features:" refl)

    pub a_protocol : b ≡ true → (v : Span) → v ≡ trim text (span (t.start + 9) t.end) → (r : Role) → r ≡ version_role (version (bytes text v)) v → r ≡ word_role text t
    unfolding word_role protocol_role first_of
    a_protocol y v k r h = rw (behind-some text t "protocol:" b e y, ← k, h)

  module _ (x : ℕ) (g : x ≡ get_or (bytes text t) 0 0) where
    pub no_word : (x ≡ 112 → ⊥) → (x ≡ 102 → ⊥) → refused UnexpectedPreambleLine ≡ word_role text t
    unfolding word_role protocol_role saying first_of
    no_word p f = rw (front_behind text t x g "protocol:" (ne_eqb x 112 p), front_behind text t x g "features:" (ne_eqb x 102 f))

    module _ (p : x ≡ 112 → ⊥) (b : Bool) (e : b ≡ starts_with (codes "features:") (bytes text t)) where
      pub no_features : b ≡ false → refused UnexpectedPreambleLine ≡ word_role text t
      unfolding word_role protocol_role saying first_of
      no_features f = rw (front_behind text t x g "protocol:" (ne_eqb x 112 p), behind-none text t "features:" b e f)

      pub some-features : b ≡ true → (v : Span) → v ≡ trim text (span (t.start + 9) t.end) → Says (Known Key.Features v) ≡ word_role text t
      unfolding word_role protocol_role saying first_of
      some-features y v k = rw (front_behind text t x g "protocol:" (ne_eqb x 112 p), behind-some text t "features:" b e y, k)

-- ---- expectations

module _ (text : List ℕ) (t : Span) (b : Bool) (e : b ≡ starts_with (codes "expect ") (bytes text t)) where
  pub expect_blank : b ≡ true → (r : Role) → r ≡ expect_role text t → r ≡ preamble_expect text t
  unfolding preamble_expect
  expect_blank y r h = rw (begins-is text t "expect " b e ∙ y, h)

  module _ (n : b ≡ false) (b₂ : Bool) (e₂ : b₂ ≡ starts_with (codes "expect:") (bytes text t)) where
    pub expect_colon : b₂ ≡ true → (r : Role) → r ≡ expect_role text t → r ≡ preamble_expect text t
    unfolding preamble_expect
    expect_colon y r h = rw (begins-is text t "expect " b e ∙ n, begins-is text t "expect:" b₂ e₂ ∙ y, h)

    pub expect_other : b₂ ≡ false → refused UnexpectedPreambleLine ≡ preamble_expect text t
    unfolding preamble_expect
    expect_other f = rw (begins-is text t "expect " b e ∙ n, begins-is text t "expect:" b₂ e₂ ∙ f)

-- what does not begin with a word does not begin with a longer one
longer : (w more s : List ℕ) → starts_with w s ≡ false → starts_with (w ++ more) s ≡ false
unfolding starts_with
longer [] more s e = never e
longer (c ∷ w) more [] e = refl
longer (c ∷ w) more (x ∷ s) e = go (eqb x c) e (longer w more s)
  where
    go : (b : Bool) → b & starts_with w s ≡ false → (starts_with w s ≡ false → starts_with (w ++ more) s ≡ false) → b & starts_with (w ++ more) s ≡ false
    go true q ih = ih q
    go false q ih = refl

-- where a word stands, the byte behind it decides whether the same word with one byte more does; that byte is not 0
one_more : (w s : List ℕ) (c : ℕ) → ltb 0 c ≡ true → starts_with w s ≡ true → starts_with (w ++ c ∷ []) s ≡ eqb (get_or s (length w) 0) c
unfolding starts_with
one_more [] [] c z y = let k = ltb-true 0 c z in sym (ne_eqb 0 c (λ e. absurd (omega arith)))
one_more [] (x ∷ s) c z y = and_true (eqb x c)
one_more (d ∷ w) [] c z y = never (sym y)
one_more (d ∷ w) (x ∷ s) c z y = let p = both (eqb x d) (starts_with w s) y in rw p.0 (one_more w s c z p.1)

-- the same from one test of the word `expect` and the byte behind it
module _ (text : List ℕ) (t : Span) (b : Bool) (e : b ≡ starts_with (codes "expect") (bytes text t)) where
  without : (c : ℕ) → b ≡ false → false ≡ starts_with (codes "expect" ++ c ∷ []) (bytes text t)
  without c f = sym (longer (codes "expect") (c ∷ []) (bytes text t) (sym e ∙ f))

  pub word_absent : b ≡ false → refused UnexpectedPreambleLine ≡ preamble_expect text t
  word_absent f = expect_other text t false (without 32 f) refl false (without 58 f) refl

  module _ (y : b ≡ true) (x : ℕ) (g : x ≡ get_or (bytes text t) 6 0) where
    signed : (c : ℕ) → ltb 0 c ≡ true → starts_with (codes "expect" ++ c ∷ []) (bytes text t) ≡ eqb x c
    signed c z = rw g (one_more (codes "expect") (bytes text t) c z (sym e ∙ y))

    pub sign_blank : x ≡ 32 → (r : Role) → r ≡ expect_role text t → r ≡ preamble_expect text t
    sign_blank d r h = expect_blank text t true (sym (signed 32 refl ∙ eq-eqb x 32 d)) refl r h

    module _ (n : x ≡ 32 → ⊥) where
      pub sign_colon : x ≡ 58 → (r : Role) → r ≡ expect_role text t → r ≡ preamble_expect text t
      sign_colon d r h = expect_colon text t false (sym (signed 32 refl ∙ ne_eqb x 32 n)) refl true (sym (signed 58 refl ∙ eq-eqb x 58 d)) refl r h

      pub sign_other : (x ≡ 58 → ⊥) → refused UnexpectedPreambleLine ≡ preamble_expect text t
      sign_other m = expect_other text t false (sym (signed 32 refl ∙ ne_eqb x 32 n)) refl false (sym (signed 58 refl ∙ ne_eqb x 58 m)) refl

-- ---- every line of the preamble

-- a line that begins with `e` and not with `expect` has no known form
module _ (text : List ℕ) (t : Span) (g : 101 ≡ get_or (bytes text t) 0 0) where
  either_way : (b : Bool) → b ≡ starts_with (codes "expect") (bytes text t) → preamble_expect text t ≡ (if begins text "expect" t then preamble_expect text t else word_role text t)
  unfolding preamble_expect word_role protocol_role saying first_of
  either_way true e = rw (begins-is text t "expect" true e)
  either_way false e =
      rw (
        begins-is text t "expect" false e,
        begins-is text t "expect " false (sym (longer (codes "expect") (32 ∷ []) (bytes text t) (sym e))),
        begins-is text t "expect:" false (sym (longer (codes "expect") (58 ∷ []) (bytes text t) (sym e))),
        front_behind text t 101 g "protocol:" refl,
        front_behind text t 101 g "features:" refl,
      )

module _ (text : List ℕ) (t : Span) (a : Bool) (z : a ≡ is_empty t) where
  pub line_empty : a ≡ true → Nothing ≡ preamble_role text t
  unfolding preamble_role
  line_empty e = rw (sym z ∙ e)

  module _ (n : a ≡ false) (x : ℕ) (g : x ≡ get_or (bytes text t) 0 0) (r : Role) where
    pub line_comment : x ≡ 35 → r ≡ comment_role text t → r ≡ preamble_role text t
    unfolding preamble_role
    line_comment d h = rw (sym z ∙ n, begins-is text t "#" true (sym (one_front 35 (bytes text t) (sym g ∙ d) refl)), h)

    pub line_expect : x ≡ 101 → r ≡ preamble_expect text t → r ≡ preamble_role text t
    unfolding preamble_role
    line_expect d h =
        rw (sym z ∙ n, front_begins text t 101 (sym d ∙ g) "#" refl)
        (h ∙ either_way text t (sym d ∙ g) (starts_with (codes "expect") (bytes text t)) refl)

    pub line_word : (x ≡ 35 → ⊥) → (x ≡ 101 → ⊥) → r ≡ word_role text t → r ≡ preamble_role text t
    unfolding preamble_role
    line_word s d h = rw (sym z ∙ n, front_begins text t x g "#" (ne_eqb x 35 s), front_begins text t x g "expect" (ne_eqb x 101 d), h)

module _ (text : List ℕ) (t : Span) (b : Bool) (e : b ≡ same_bytes (bytes text t) (codes "---")) where
  pub step_over : b ≡ true → step Nothing Outside ≡ preamble_step text t
  unfolding preamble_step is
  step_over y = rw (spells_as "---" (bytes text t) ∙ sym e ∙ y)

  pub step_inside : b ≡ false → (r : Role) → r ≡ preamble_role text t → step r InPreamble ≡ preamble_step text t
  unfolding preamble_step is
  step_inside f r h = rw (spells_as "---" (bytes text t) ∙ sym e ∙ f, h)

-- what begins with `#` is not that line
no_dashes : (s : List ℕ) → get_or s 0 0 ≡ 35 → same_bytes s (codes "---") ≡ false
unfolding same_bytes
no_dashes [] e = refl
no_dashes (x ∷ s) e = rw e

-- a comment that begins with no letter of the three words
module _ (text : List ℕ) (t : Span) (y : ℕ) (f : y ≡ get_or (bytes text t) 0 0) (d : y ≡ 35) where
  -- a piece with a first byte is not empty
  has_first : is_empty t ≡ false
  unfolding is_empty
  has_first =
      ne_eqb t.start t.end (
      λ h. let z : get_or (bytes text t) 0 0 ≡ 0 = ap (λ (b : List ℕ). get_or b 0 0) (bytes-none text t.start t.end (omega arith)) in omega arith
      )

  pub remark : (start : ℕ) → start ≡ behind_signs t.start (bytes text t) → (c : Span) → c ≡ trim text (span start t.end) → (x : ℕ) → x ≡ get_or (bytes text c) 0 0
      → (x ≡ 100 → ⊥) → (x ≡ 116 → ⊥) → (x ≡ 115 → ⊥) → step Nothing InPreamble ≡ preamble_step text t
  remark start e c k x g p u s =
      step_inside text t false (sym (no_dashes (bytes text t) (sym f ∙ d))) refl Nothing (line_comment text t (is_empty t) refl has_first y f Nothing d (comment_none text t start e c k x g p u s))

pub ruleset sign_steps = (signs_over, signs_end, signs-on)

pub ruleset comment_words = (comment_none, comment_daemon, comment_trust, comment_features)

pub ruleset protocol_words = (no_protocol, a_protocol)

pub ruleset preamble_words = (no_word, no_features, some-features)

pub ruleset preamble_lines = (line_empty, line_comment, line_expect, line_word)

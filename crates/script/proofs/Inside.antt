-- Every part of what an expectation line states lies inside the text. Assumes nothing.
use Prim.Native.Nat.{ℕ, zero, suc, ◌+◌, ◌-◌, ◌≤◌, ◌<◌}
use Prim.Native.Char.{code}
use Prim.Native.String.{String, [] as []ˢ, ◌∷◌ as ◌∷ˢ◌}
use mathlib.Core.Path.{◌≡◌, refl, sym}
use mathlib.Core.Bool.{Bool, true, false}
use mathlib.Core.List.{List, [], ◌∷◌, ◌++◌}
use native.Mathlib.Omega.{arith}
use lib.Dec.{eqb, ltb}
use lib.IntN.{ℤ}
use lib.ListN.{length, length-drop, drop}
use lib.Seq.{length-take-le}
use borrow.Author.Tests.{ltb-true}
use Rattle.std.specs.Prelude.{if◌then◌else◌, Err, None, Ok, Option, Some}
use Rattle.text.specs.Base.{◌&◌, ◌or◌, LF, CR}
use Rattle.text.specs.Literal.{begins_with, word_length}
use Rattle.values.specs.Numbers.{signed}
use Rattle.text.specs.Lines.{lines_from, lines}
use Rattle.text.specs.Parts.{span, position_from, position}
use Rattle.text.specs.declared.parts.Span.{Span}
use Rattle.text.specs.declared.lines.Line.{Line}
use Rattle.text.proofs.Scan.{both, never, by_cases}
use Rattle.text.proofs.TrimLaws.{trim-inside}
use Rattle.script.specs.Answers.{◌>>=◌, first_of, Answer}
use Rattle.script.specs.Pieces.{place_of, place, bytes, is_empty, is, begins, ends, behind, trim, inner, Cut, cut, cut_at}
use Rattle.script.specs.Inside.{In, PlaceIn, MatcherIn, ExpectIn, AllIn}
use Rattle.script.specs.Expectations.{COLON, SLASH, numbered, about, pattern, comparison, matcher, matching, terminal, field, result, expectation}
use Rattle.script.specs.Roles.{line_span, expecting, expect_role, argument_line, refused}
use Rattle.script.specs.Contents.{expectation_of}
use Rattle.script.specs.Plain.{PlainLine, expects, opens, other, Standing, above, below, taking, PlainStep, trimmed_line, inward, expectation_line, plain_above, plain_below, plain_step, plain_from, plain_lines, expectation_lines, stated, stated_on}
use Rattle.script.specs.declared.records.Matcher.{Matcher}
use Rattle.script.specs.declared.records.Matcher.TheVariants.{Regex, GreaterThan, LessThan, GreaterOrEqual, LessOrEqual}
use Rattle.script.specs.declared.records.Expect.{Expect}
use Rattle.script.specs.declared.records.Expect.TheVariants.{Result, ResultField, Error, StderrCount, Daemon, Trust, ServerFeatures}
use Rattle.script.specs.declared.records.Expectation.{Expectation}
use Rattle.script.specs.declared.roles.Role.{Role}
use Rattle.script.specs.declared.roles.Role.TheVariants.{Nothing, Says, Expects, Opens, Bad}
use Rattle.script.specs.declared.refusals.Reason.TheVariants.{UnknownExpectation}

-- ---- pieces of pieces

pub length-bytes : (text : List ℕ) (p : Span) → In text p → length (bytes text p) ≡ p.end - p.start
unfolding bytes
length-bytes text p i = length-take-le (p.end - p.start) (drop p.start text) (omega (arith, length-drop p.start text, i.inside))

pub trim_in : (text : List ℕ) (p : Span) → In text p → In text (trim text p)
unfolding trim
trim_in text p i =
    let k = trim-inside (bytes text p) in
    record { forward = omega arith; inside = omega (arith, length-bytes text p i, i.forward, i.inside) }

word_fits : (w : String) (s : List ℕ) → begins_with w s ≡ true → word_length w ≤ length s
unfolding begins_with word_length
word_fits []ˢ s e = omega arith
word_fits (c ∷ˢ w) [] e = never (sym e)
word_fits (c ∷ˢ w) (x ∷ s) e = go (eqb (code c) x) e (word_fits w s)
  where
    go : (b : Bool) → (if b then begins_with w s else false) ≡ true → (begins_with w s ≡ true → word_length w ≤ length s) → suc (word_length w) ≤ suc (length s)
    go true e ih = omega (arith, ih e)
    go false e ih = never (sym e)

-- what holds of something that may be missing, if it is there
abbrev pub Opt : {A : Type 0} → (A → Type 0) → Option A → Type 0
Opt P None = Unit {0}
Opt P (Some a) = P a

pub behind_in : (text : List ℕ) (w : String) (p : Span) → In text p → Opt (In text) (behind text w p)
unfolding behind begins
behind_in text w p i = go (begins_with w (bytes text p)) (word_fits w (bytes text p))
  where
    go : (b : Bool) → (b ≡ true → word_length w ≤ length (bytes text p)) → Opt (In text) (if b then Some (span (p.start + word_length w) p.end) else None)
    go true f = record { forward = omega (arith, f refl, length-bytes text p i, i.forward); inside = i.inside }
    go false f = tt

-- the first b stands inside
pub position_in : (b at n : ℕ) (s : List ℕ) → position_from b at s ≡ Some n → n < at + length s
unfolding position_from
position_in b at n [] e = let z : ◌≡◌ {A = Bool} true false = cc in never z
position_in b at n (x ∷ s) e = go (eqb x b) e (position_in b (at + 1) n s)
  where
    go : (t : Bool) → (if t then Some at else position_from b (at + 1) s) ≡ Some n → (position_from b (at + 1) s ≡ Some n → n < at + 1 + length s) → n < at + suc (length s)
    go true e later = let f : at ≡ n = cc in omega arith
    go false e later = omega (arith, later e)

abbrev pub CutIn : List ℕ → Cut → Type 0
CutIn text c = In text c.before × In text c.after

pub cut_in : (text : List ℕ) (b : ℕ) (p : Span) → In text p → Opt (CutIn text) (cut text b p)
unfolding cut cut_at position
cut_in text b p i = go (position_from b 0 (bytes text p)) refl
  where
    go : (o : Option ℕ) → position_from b 0 (bytes text p) ≡ o → Opt (CutIn text) (o >>= (λ n. Some (cut_at p n)))
    go None e = tt
    go (Some n) e =
        let h = position_in b 0 n (bytes text p) e in
        let l = length-bytes text p i in
        (record { forward = omega arith; inside = omega (arith, i.forward, i.inside) }, record { forward = omega (arith, i.forward); inside = i.inside })

place_in_lem : (text : List ℕ) (p : Span) → In text p → PlaceIn (length text) (place p)
unfolding place place_of
place_in_lem text p i = go (p.end - p.start) refl
  where
    go : (n : ℕ) → p.end - p.start ≡ n → PlaceIn (length text) (place_of p.start n)
    go zero e = omega arith
    go (suc n) e = omega (arith, i.forward, i.inside)

inner_in : (text : List ℕ) (p : Span) → 1 < p.end - p.start → In text p → In text (inner p)
unfolding inner
inner_in text p h i = record { forward = omega arith; inside = omega (arith, i.inside) }

-- ---- the first attempt that fits

abbrev pub All : {A : Type 0} → (A → Type 0) → List (Option A) → Type 0
All P [] = Unit {0}
All P (o ∷ os) = Opt P o × All P os

pub first_in : {A : Type 0} (P : A → Type 0) (os : List (Option A)) (last : A) → All P os → P last → P (first_of os last)
unfolding first_of
first_in P [] last h k = k
first_in P (Some a ∷ os) last h k = h.0
first_in P (None ∷ os) last h k = first_in P os last h.1 k

-- ---- matchers and expectations

module _ (text : List ℕ) where
  abbrev MatcherGiven : Answer Matcher → Type 0
  MatcherGiven (Ok m) = MatcherIn (length text) m
  MatcherGiven (Err n) = Unit {0}

  abbrev ExpectGiven : Answer Expect → Type 0
  ExpectGiven (Ok e) = ExpectIn (length text) e
  ExpectGiven (Err n) = Unit {0}

  pattern_in : (s : Span) → In text s → Opt MatcherGiven (pattern text s)
  unfolding pattern
  pattern_in s i = go (begins text "/" s & ends text s SLASH & ltb 1 (s.end - s.start)) refl
    where
      go : (b : Bool) → begins text "/" s & ends text s SLASH & ltb 1 (s.end - s.start) ≡ b → Opt MatcherGiven (if b then Some (Ok (Regex (place (inner s)))) else None)
      go true e =
          let f = both (ends text s SLASH) (ltb 1 (s.end - s.start)) (both (begins text "/" s) (ends text s SLASH & ltb 1 (s.end - s.start)) e).1 in
          place_in_lem text (inner s) (inner_in text s (ltb-true 1 (s.end - s.start) f.1) i)
      go false e = tt

  -- a comparison has a number, which is no place
  comparison_in : (case : ℤ → Matcher) → ((n : ℤ) → MatcherIn (length text) (case n)) → (o : Option Span) → Opt MatcherGiven (comparison text case o)
  unfolding comparison numbered
  comparison_in case c None = tt
  comparison_in case c (Some rest) = go (signed (bytes text (trim text rest)))
    where
      go : (o : Option ℤ) → MatcherGiven (numbered case o)
      go None = tt
      go (Some n) = c n

  matcher_in_lem : (s : Span) → In text s → MatcherGiven (matcher text s)
  unfolding matcher
  matcher_in_lem s i =
      first_in MatcherGiven _ _ (
        pattern_in s i,
        (
          comparison_in GreaterOrEqual (λ n. tt) (behind text ">=" s),
          (
            comparison_in LessOrEqual (λ n. tt) (behind text "<=" s),
            (
              comparison_in GreaterThan (λ n. tt) (behind text ">" s),
              (comparison_in LessThan (λ n. tt) (behind text "<" s), tt),
            ),
          ),
        ),
      )
      (place_in_lem text s i)

  about_in : (case : Matcher → Expect) → ((m : Matcher) → MatcherIn (length text) m → ExpectIn (length text) (case m)) → (a : Answer Matcher) → MatcherGiven a → ExpectGiven (about case a)
  unfolding about
  about_in case c (Ok m) h = c m h
  about_in case c (Err n) h = tt

  matching_in : (case : Matcher → Expect) → ((m : Matcher) → MatcherIn (length text) m → ExpectIn (length text) (case m)) → (o : Option Span) → Opt (In text) o → Opt ExpectGiven (matching text case o)
  unfolding matching
  matching_in case c None h = tt
  matching_in case c (Some rest) h = about_in case c (matcher text (trim text rest)) (matcher_in_lem (trim text rest) (trim_in text rest h))

  terminal_in : (o : Option Span) → Opt (In text) o → Opt ExpectGiven (terminal text o)
  unfolding terminal
  terminal_in None h = tt
  terminal_in (Some rest) h = place_in_lem text (trim text rest) (trim_in text rest h)

  field_in : (o : Option Span) → Opt (In text) o → Opt ExpectGiven (field text o)
  unfolding field
  field_in None h = tt
  field_in (Some rest) h = go (cut text COLON rest) (cut_in text COLON rest h)
    where
      go : (o : Option Cut) → Opt (CutIn text) o → Opt ExpectGiven (o >>= (λ c. matching text (ResultField (place (trim text c.before))) (Some c.after)))
      go None h = tt
      go (Some c) h =
          matching_in (ResultField (place (trim text c.before))) (λ m k. (place_in_lem text (trim text c.before) (trim_in text c.before h.0), k)) (Some c.after) h.1

  result_in : (o : Option Span) → Opt (In text) o → Opt ExpectGiven (result text o)
  unfolding result
  result_in None h = tt
  result_in (Some rest) h =
      let i = trim_in text rest h in
      go (matching text Result (behind text ":" (trim text rest))) (matching_in Result (λ m k. k) (behind text ":" (trim text rest)) (behind_in text ":" (trim text rest) i))
      (field_in (behind text "." (trim text rest)) (behind_in text "." (trim text rest) i))
    where
      go : (a : Option (Answer Expect)) → Opt ExpectGiven a → Opt ExpectGiven (field text (behind text "." (trim text rest)))
          → Opt ExpectGiven (elim a [ None ↦ field text (behind text "." (trim text rest)) | Some e ↦ Some e ])
      go None h k = k
      go (Some e) h k = h

  expectation_in : (r : Span) → In text r → ExpectGiven (expectation text r)
  unfolding expectation
  expectation_in r i =
      first_in ExpectGiven _ _ (
        terminal_in (behind text ":" r) (behind_in text ":" r i),
        (
          matching_in StderrCount (λ m k. k) (behind text "stderr.count:" r) (behind_in text "stderr.count:" r i),
          (
            matching_in Error (λ m k. k) (behind text "error:" r) (behind_in text "error:" r i),
            (
              result_in (behind text "result" r) (behind_in text "result" r i),
              (
                matching_in Daemon (λ m k. k) (behind text "daemon:" r) (behind_in text "daemon:" r i),
                (
                  matching_in Trust (λ m k. k) (behind text "trust:" r) (behind_in text "trust:" r i),
                  (matching_in ServerFeatures (λ m k. k) (behind text "server_features:" r) (behind_in text "server_features:" r i), tt),
                ),
              ),
            ),
          ),
        ),
      )
      tt

  -- ---- what a line states

  abbrev RoleIn : Role → Type 0
  RoleIn Nothing = Unit {0}
  RoleIn (Says s) = Unit {0}
  RoleIn (Expects e) = ExpectIn (length text) e
  RoleIn (Opens o) = Unit {0}
  RoleIn (Bad n) = Unit {0}

  expecting_in : (a : Answer Expect) → ExpectGiven a → RoleIn (expecting a)
  expecting_in (Ok e) h = h
  expecting_in (Err n) h = tt

  role_in : (t : Span) → In text t → RoleIn (expect_role text t)
  unfolding expect_role
  role_in t i = go (behind text "expect" t) (behind_in text "expect" t i)
    where
      go : (o : Option Span) → Opt (In text) o → RoleIn (elim o [ None ↦ refused UnknownExpectation | Some rest ↦ expecting (expectation text (trim text rest)) ])
      go None h = tt
      go (Some rest) h = expecting_in (expectation text (trim text rest)) (expectation_in (trim text rest) (trim_in text rest h))

  stated_of : (line : ℕ) (r : Role) → RoleIn r → AllIn (length text) (expectation_of line r)
  unfolding expectation_of
  stated_of line Nothing h = tt
  stated_of line (Says s) h = tt
  stated_of line (Expects e) h = (h, tt)
  stated_of line (Opens o) h = tt
  stated_of line (Bad n) h = tt

  all_append : (xs ys : List Expectation) → AllIn (length text) xs → AllIn (length text) ys → AllIn (length text) (xs ++ ys)
  all_append [] ys h k = k
  all_append (x ∷ xs) ys h k = (h.0, all_append xs ys h.1 k)

  -- ---- the lines of the text lie inside it

  abbrev pub LinesIn : List Line → Type 0
  LinesIn [] = Unit {0}
  LinesIn (l ∷ ls) = In text (line_span l) × LinesIn ls

  pub lines_in : (number start at end : ℕ) (rest : List ℕ) → start ≤ end → end ≤ at → start ≤ at → at + length rest ≡ length text → LinesIn (lines_from number start at end rest)
  unfolding lines_from
  lines_in number start at end [] p q r h = by_cases LinesIn (eqb start at) _ _ tt (record { forward = r; inside = omega arith }, tt)
  lines_in number start at end (x ∷ rest) p q r h =
      by_cases LinesIn (eqb x LF) _ _
      (record { forward = p; inside = omega arith }, lines_in (number + 1) (at + 1) (at + 1) (at + 1) rest (omega arith) (omega arith) (omega arith) (omega arith))
      (by_cases (λ e. LinesIn (lines_from number start (at + 1) e rest)) (eqb x CR) _ _
      (lines_in number start (at + 1) at rest (omega arith) (omega arith) (omega arith) (omega arith))
      (lines_in number start (at + 1) (at + 1) rest (omega arith) (omega arith) (omega arith) (omega arith)))

  abbrev MarkIn : PlainLine → Type 0
  MarkIn (expects l) = In text (line_span l)
  MarkIn opens = Unit {0}
  MarkIn other = Unit {0}

  abbrev StepIn : PlainStep → Type 0
  StepIn s = MarkIn s.mark

  below_in : (l : Line) → In text (line_span l) → StepIn (plain_below text l)
  unfolding plain_below
  below_in l i = by_cases StepIn (is_empty (trimmed_line text l) or begins text "#" (trimmed_line text l)) _ _ tt (by_cases StepIn (expectation_line text l) _ _ i tt)

  step_in : (w : Standing) (l : Line) → In text (line_span l) → StepIn (plain_step text w l)
  unfolding plain_step plain_above
  step_in above l i = by_cases StepIn (is text "---" (trimmed_line text l)) _ _ tt (by_cases MarkIn (expectation_line text l) _ _ i tt)
  step_in below l i = below_in l i
  step_in (taking takes) l i = by_cases StepIn (argument_line text (inward text l) (trimmed_line text l)) _ _ tt (below_in l i)

  marks_in : (w : Standing) (ls : List Line) → LinesIn ls → LinesIn (expectation_lines (plain_from text w ls))
  unfolding plain_from expectation_lines
  marks_in w [] h = tt
  marks_in w (l ∷ ls) h = go (plain_step text w l).mark (step_in w l h.0) (marks_in (plain_step text w l).next ls h.1)
    where
      go : (m : PlainLine) → MarkIn m → LinesIn (expectation_lines (plain_from text (plain_step text w l).next ls))
          → LinesIn (expectation_lines (m ∷ plain_from text (plain_step text w l).next ls))
      go (expects k) h ih = (h, ih)
      go opens h ih = ih
      go other h ih = ih

  stated_in : (ls : List Line) → LinesIn ls → AllIn (length text) (stated_on text ls)
  unfolding stated_on stated
  stated_in [] h = tt
  stated_in (l ∷ ls) h =
      all_append (expectation_of l.number (expect_role text (trimmed_line text l))) (stated_on text ls)
      (stated_of l.number (expect_role text (trimmed_line text l)) (role_in (trimmed_line text l) (trim_in text (line_span l) h.0))) (stated_in ls h.1)

  pub all_in : AllIn (length text) (stated_on text (expectation_lines (plain_lines text)))
  unfolding plain_lines lines
  all_in = stated_in _ (marks_in above (lines_from 1 0 0 0 text) (lines_in 1 0 0 0 text (omega arith) (omega arith) (omega arith) (omega arith)))

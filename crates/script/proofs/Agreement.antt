-- A step of the reading that refuses nothing and a step of the plain judge agree, wherever the line stands: what the line is, where the next one stands, and
-- what the line states. Assumes nothing.
use Prim.Native.Nat.{ℕ, zero, suc, ◌+◌, ◌-◌, ◌≤◌}
use Prim.Native.Char.{Char, code}
use Prim.Native.String.{String, ◌∷◌ as ◌∷ˢ◌}
use mathlib.Core.Path.{◌≡◌, refl, sym, ap, ◌∙◌}
use mathlib.Core.Bool.{Bool, true, false, not, true≢false, false≢true}
use mathlib.Core.List.{List, [], ◌∷◌}
use native.Mathlib.Omega.{arith}
use native.Mathlib.Nat.{add-sub_cancel_left, sub_self}
use lib.Dec.{eqb}
use lib.ListN.{take, drop}
use borrow.Author.Tests.{eqb-true}
use Rattle.std.specs.Prelude.{if◌then◌else◌, Err, None, Ok, Option, Some}
use Rattle.text.specs.Base.{◌&◌, ◌or◌, BLANK}
use Rattle.text.specs.Literal.{spells, begins_with}
use Rattle.text.specs.Parts.{span, position_from, position}
use Rattle.text.specs.declared.parts.Span.{Span}
use Rattle.text.specs.declared.lines.Line.{Line}
use Rattle.wire.specs.Operations.{operation, first, named}
use Rattle.version.specs.Version.{version}
use Rattle.wire.specs.declared.ops.Op.{Op}
use Rattle.version.specs.declared.ProtocolVersion.{ProtocolVersion}
use Rattle.script.specs.Answers.{◌>>=◌, first_of, Answer}
use Rattle.script.specs.Pieces.{bytes, is_empty, is, begins, behind, trim, Cut, cut_into, cut, cut_at, cut_or}
use Rattle.script.specs.Operations.{form_of}
use Rattle.script.specs.Values.{Rules}
use Rattle.script.specs.Timestamps.{stamped}
use Rattle.script.specs.Expectations.{expectation}
use Rattle.script.specs.Roles.{step, expecting, expect_role, saying, comment_role, version_role, protocol_role, word_role, preamble_expect, preamble_role, preamble_step, set_on, open_on, with_name, with_stamp, opening_role, after_opening, skipped, outside_step, entry_step, argument_line, saying_in, refusal_of, says_or, after_saying, argument_step, block_step, step_at, step_of, refused}
use Rattle.script.specs.Roles as Roles
use Rattle.script.specs.Contents.{expectation_of}
use Rattle.script.specs.Plain.{PlainLine, expects, opens, other, Standing, above, below, taking, PlainStep, plainly, trimmed_line, inward, expectation_line, plain_above, taken_by, taken_on, under, plain_below, has_key, remaining, plain_step, stated}
use Rattle.script.specs.declared.records.Expect.{Expect}
use Rattle.script.specs.declared.records.Expectation.{Expectation}
use Rattle.script.specs.declared.refusals.Reason.{Reason}
use Rattle.script.specs.declared.roles.Key.{Key}
use Rattle.script.specs.declared.roles.Takes.{Takes}
use Rattle.script.specs.declared.roles.Takes.TheVariants.{NoLines, Options, Garbage, Verify, Texts, Store, Multiple, FirstData, FirstRaw}
use Rattle.script.specs.declared.roles.Where.{Where}
use Rattle.script.specs.declared.roles.Where.TheVariants.{InPreamble, Outside, InBlock, InEntry}
use Rattle.script.specs.declared.roles.Saying.{Saying}
use Rattle.script.specs.declared.roles.Saying.TheVariants.{Known, Pair, NoColon, Unknown, NoPair, NoRaw}
use Rattle.script.specs.declared.roles.Role.{Role}
use Rattle.script.specs.declared.roles.Role.TheVariants.{Nothing, Says, Expects, Opens, Bad}
use Rattle.script.specs.declared.roles.Step.{Step}
use Rattle.script.specs.declared.records.Time.{Time}
use Rattle.script.specs.declared.refusals.Reason.TheVariants.{BraceNotClosed, UnexpectedPreambleLine, UnknownExpectation}
use Rattle.script.specs.declared.roles.Stamped.{Stamped}

-- where the plain judge stands when the reading stands at w
abbrev pub standing : Where → Standing
standing InPreamble = above
standing Outside = below
standing (InBlock takes list_open) = taking takes
standing InEntry = below

-- what the plain judge sees in a line that the reading finds to be r
abbrev pub plain_of : Line → Role → PlainLine
plain_of l Nothing = other
plain_of l (Says s) = other
plain_of l (Expects e) = expects l
plain_of l (Opens o) = opens
plain_of l (Bad n) = other

abbrev pub is_bad : Role → Bool
is_bad Nothing = false
is_bad (Says s) = false
is_bad (Expects e) = false
is_bad (Opens o) = false
is_bad (Bad n) = true

-- what a line states, as the plain judge sees the line
abbrev pub stated_in : (text : List ℕ) → PlainLine → List Expectation
stated_in text (expects l) = stated text l
stated_in text opens = []
stated_in text other = []

-- the reading's step and the plain judge's agree
pub record Agree (text : List ℕ) (l : Line) (s : Step) (p : PlainStep) : Type 0 where
  pub mark : plain_of l s.role ≡ p.mark
  pub next : standing s.next ≡ p.next
  pub same : expectation_of l.number s.role ≡ stated_in text p.mark

-- ---- first bytes

-- bytes that begin with a word begin with its first sign
starts : (c : Char) (w : String) (s : List ℕ) → begins_with (c ∷ˢ w) s ≡ true → (rest : List ℕ) × (s ≡ code c ∷ rest)
unfolding begins_with
starts c w [] h = absurd (false≢true h)
starts c w (x ∷ xs) h = go (eqb (code c) x) refl h
  where
    go : (b : Bool) → eqb (code c) x ≡ b → (if b then begins_with w xs else false) ≡ true → (rest : List ℕ) × (x ∷ xs ≡ code c ∷ rest)
    go true e h = (xs, ap (λ (y : ℕ). y ∷ xs) (sym (eqb-true (code c) x e)))
    go false e h = absurd (false≢true h)

-- an empty piece begins with no word
pub empty_begins : (text : List ℕ) (t : Span) → is_empty t ≡ true → begins text "expect" t ≡ false
unfolding begins bytes is_empty begins_with
empty_begins text t h = rw (eqb-true t.start t.end h, sub_self t.end)

hash_expect : (rest : List ℕ) → begins_with "expect" (0x23 ∷ rest) ≡ false
unfolding begins_with
hash_expect rest = refl

pub hash_begins : (text : List ℕ) (t : Span) → begins text "#" t ≡ true → begins text "expect" t ≡ false
unfolding begins
hash_begins text t h = let (rest, e) = starts "#" "" (bytes text t) h in rw e (hash_expect rest)

-- ---- a line that begins with `#` or `expect` opens no entry: no operation's name begins so, and no timestamp

-- the text at the start of a piece whose first byte is x
at_start : (k : ℕ) (l rest : List ℕ) (x : ℕ) → take k l ≡ x ∷ rest → (more : List ℕ) × (l ≡ x ∷ more)
at_start zero l rest x e = let z : ◌≡◌ {A = List ℕ} [] (x ∷ rest) = e in absurd (nothing_there z)
  where
    nothing_there : ◌≡◌ {A = List ℕ} [] (x ∷ rest) → ⊥
    nothing_there z = let q : ◌≡◌ {A = ℕ} 0 1 = cc in omega arith
at_start (suc k) [] rest x e = absurd (nothing_there e)
  where
    nothing_there : ◌≡◌ {A = List ℕ} [] (x ∷ rest) → ⊥
    nothing_there z = let q : ◌≡◌ {A = ℕ} 0 1 = cc in omega arith
at_start (suc k) (y ∷ l) rest x e = (l, (let f : y ≡ x = cc in ap (λ (n : ℕ). n ∷ l) f))

-- the first b from a place on stands there or further on
from_place : (b at n : ℕ) (s : List ℕ) → position_from b at s ≡ Some n → at ≤ n
unfolding position_from
from_place b at n [] e = let q : ◌≡◌ {A = ℕ} 0 1 = cc in absurd (zero_one q)
  where
    zero_one : ◌≡◌ {A = ℕ} 0 1 → ⊥
    zero_one z = omega arith
from_place b at n (x ∷ s) e = go (eqb x b) e (from_place b (at + 1) n s)
  where
    go : (t : Bool) → (if t then Some at else position_from b (at + 1) s) ≡ Some n → (position_from b (at + 1) s ≡ Some n → at + 1 ≤ n) → at ≤ n
    go true e later = let f : at ≡ n = cc in omega arith
    go false e later = omega (arith, later e)

-- a piece cut in two, or whole
abbrev cut_or_whole : Span → Option Cut → Cut
cut_or_whole p o = elim o [ None ↦ cut_into p (span p.end p.end) | Some c ↦ c ]

module _ (text : List ℕ) (t : Span) (x : ℕ) (rest : List ℕ) (is_x : bytes text t ≡ x ∷ rest) (no_name : (more : List ℕ) → named (x ∷ more) ≡ None) where
  -- the piece up to a blank that is not its first byte
  name-none : (n : ℕ) → 1 ≤ n → named (bytes text (span t.start (t.start + n))) ≡ None
  unfolding bytes
  name-none zero h = absurd (omega arith)
  name-none (suc m) h =
      let (more, e) = at_start (t.end - t.start) (drop t.start text) rest x is_x in
      rw (add-sub_cancel_left t.start (suc m), e) (no_name (take m more))

  module _ (no-blank : eqb x BLANK ≡ false) where
    first_blank : position BLANK (bytes text t) ≡ position_from BLANK (0 + 1) rest
    unfolding position position_from
    first_blank = rw (is_x, no-blank)

    cut-is : (o : Option ℕ) → position BLANK (bytes text t) ≡ o → cut_or text BLANK t ≡ cut_or_whole t (o >>= (λ n. Some (cut_at t n)))
    unfolding cut_or cut
    cut-is o e = ap (λ (q : Option ℕ). cut_or_whole t (q >>= (λ n. Some (cut_at t n)))) e

    before-none : named (bytes text (cut_or text BLANK t).before) ≡ None
    unfolding cut_at
    before-none = ap (λ (c : Cut). named (bytes text c.before)) (cut-is (position_from BLANK (0 + 1) rest) first_blank) ∙ go (position_from BLANK (0 + 1) rest) refl
      where
        go : (o : Option ℕ) → position_from BLANK (0 + 1) rest ≡ o → named (bytes text (cut_or_whole t (o >>= (λ n. Some (cut_at t n)))).before) ≡ None
        go None e = rw is_x (no_name rest)
        go (Some n) e = name-none n (from_place BLANK (0 + 1) n rest e)

    opening-bad : begins_with "@" (x ∷ rest) ≡ false → is_bad (opening_role text t) ≡ true
    unfolding opening_role stamped behind begins with_stamp with_name
    opening-bad no_stamp = rw (is_x, no_stamp, stamped, before-none)

hash_name : (more : List ℕ) → named (0x23 ∷ more) ≡ None
unfolding named first spells operation
hash_name more = refl

small_e_name : (more : List ℕ) → named (0x65 ∷ more) ≡ None
unfolding named first spells operation
small_e_name more = refl

no_stamp : (x : ℕ) (rest : List ℕ) → eqb 0x40 x ≡ false → begins_with "@" (x ∷ rest) ≡ false
unfolding begins_with
no_stamp x rest e = rw e

-- so where the line is read, it does not stand where an entry is opened
hash_opens : (text : List ℕ) (t : Span) → begins text "#" t ≡ true → is_bad (opening_role text t) ≡ false → ⊥
unfolding begins
hash_opens text t h ok =
    let (rest, e) = starts "#" "" (bytes text t) h in
    true≢false (sym (opening-bad text t 0x23 rest e hash_name refl (no_stamp 0x23 rest refl)) ∙ ok)

expect_opens : (text : List ℕ) (t : Span) → begins text "expect" t ≡ true → is_bad (opening_role text t) ≡ false → ⊥
unfolding begins
expect_opens text t h ok =
    let (rest, e) = starts "e" "xpect" (bytes text t) h in
    true≢false (sym (opening-bad text t 0x65 rest e small_e_name refl (no_stamp 0x65 rest refl)) ∙ ok)

-- ---- opening lines

standing_below : (takes : Takes) → standing (Roles.below takes) ≡ under takes
unfolding under
standing_below NoLines = refl
standing_below Options = refl
standing_below Garbage = refl
standing_below Verify = refl
standing_below Texts = refl
standing_below Store = refl
standing_below Multiple = refl
standing_below FirstData = refl
standing_below FirstRaw = refl

-- what comes after an argument line: an override list changes nothing of what lines may follow
after_first : (s : Saying) → standing (after_saying FirstData s) ≡ (if has_key s then below else taking FirstData)
unfolding has_key
after_first (Known k v) = refl
after_first (Pair a b) = refl
after_first NoColon = refl
after_first (Unknown k v) = refl
after_first NoPair = refl
after_first NoRaw = refl

after-raw : (s : Saying) → standing (after_saying FirstRaw s) ≡ (if has_key s then below else taking FirstRaw)
unfolding has_key
after-raw (Known k v) = refl
after-raw (Pair a b) = refl
after-raw NoColon = refl
after-raw (Unknown k v) = refl
after-raw NoPair = refl
after-raw NoRaw = refl

-- of the keyword operations
data Keyword : Takes → Type 0 where
  options : Keyword Options
  garbage : Keyword Garbage
  verify : Keyword Verify
  texts : Keyword Texts
  store : Keyword Store
  multiple : Keyword Multiple

after_keyword : (takes : Takes) → Keyword takes → (s : Saying) → standing (after_saying takes s) ≡ taking takes
after_keyword takes options (Known k v) = refl
after_keyword takes garbage (Known k v) = refl
after_keyword takes verify (Known k v) = refl
after_keyword takes texts (Known k v) = refl
after_keyword takes store (Known k v) = refl
after_keyword takes multiple (Known k v) = refl
after_keyword takes w (Pair a b) = refl
after_keyword takes w NoColon = refl
after_keyword takes w (Unknown k v) = refl
after_keyword takes w NoPair = refl
after_keyword takes w NoRaw = refl

module _ (text : List ℕ) (l : Line) where
  abbrev t : Span
  t = trimmed_line text l

  -- a line that is read as an opening one
  abbrev Opened : Role → Takes → Type 0
  Opened r takes = Agree text l (step r (after_opening r)) (plainly opens (under takes))

  with_name_lem : (stamp : Option Time) (op : Option Op) (args : Span) → is_bad (with_name text stamp op args) ≡ false → Opened (with_name text stamp op args) (taken_by op)
  unfolding with_name taken_by expectation_of
  with_name_lem stamp None args ok = absurd (true≢false ok)
  with_name_lem stamp (Some op) args ok = go (open_on text (set_on text (form_of op).syntax args)) ok
    where
      go : (b : Bool) → is_bad (if b then refused BraceNotClosed else Opens (Roles.opening stamp op args)) ≡ false
          → Agree text l (step (if b then refused BraceNotClosed else Opens (Roles.opening stamp op args)) (after_opening (if b then refused BraceNotClosed else Opens (Roles.opening stamp op args)))) (plainly opens (under (form_of op).takes))
      go true ok = absurd (true≢false ok)
      go false ok = record { mark = refl; next = standing_below (form_of op).takes; same = refl }

  opening_of : (a : Answer Stamped) → is_bad (with_stamp text a) ≡ false → Opened (with_stamp text a) (taken_on text a)
  unfolding with_stamp taken_on
  opening_of (Ok s) ok = with_name_lem s.stamp _ _ ok
  opening_of (Err n) ok = absurd (true≢false ok)

  -- ---- expectation lines

  expecting-is : (a : Answer Expect) → is_bad (expecting a) ≡ false → plain_of l (expecting a) ≡ expects l
  expecting-is (Ok e) ok = refl
  expecting-is (Err n) ok = absurd (true≢false ok)

  expect_is : is_bad (expect_role text t) ≡ false → plain_of l (expect_role text t) ≡ expects l
  unfolding expect_role
  expect_is ok = go (behind text "expect" t) ok
    where
      go : (o : Option Span) → is_bad (elim o [ None ↦ refused UnknownExpectation | Some rest ↦ expecting (expectation text (trim text rest)) ]) ≡ false
          → plain_of l (elim o [ None ↦ refused UnknownExpectation | Some rest ↦ expecting (expectation text (trim text rest)) ]) ≡ expects l
      go None ok = absurd (true≢false ok)
      go (Some rest) ok = expecting-is (expectation text (trim text rest)) ok

  -- ---- below the `---` line

  -- e, h and x: the line is empty, begins with `#`, begins with `expect`; n: it begins with `# nwscript`
  outside_tests : (e h x n : Bool) → is_empty t ≡ e → begins text "#" t ≡ h → begins text "expect" t ≡ x → begins text "# nwscript" t ≡ n
      → is_bad (if e or (h & not n) then step Nothing Outside else step (opening_role text t) (after_opening (opening_role text t))).role ≡ false
      → Agree text l (if e or (h & not n) then step Nothing Outside else step (opening_role text t) (after_opening (opening_role text t)))
      (if e or h then plainly other below else if x then plainly (expects l) below else plainly opens (under (taken_on text (stamped text t))))
  unfolding opening_role expectation_of
  outside_tests true h x n fe fh fx fn ok = record { mark = refl; next = refl; same = refl }
  outside_tests false true x false fe fh fx fn ok = record { mark = refl; next = refl; same = refl }
  outside_tests false true x true fe fh fx fn ok = absurd (hash_opens text t fh ok)
  outside_tests false false true n fe fh fx fn ok = absurd (expect_opens text t fx ok)
  outside_tests false false false n fe fh fx fn ok = opening_of (stamped text t) ok

  -- what the definition tests of the line; said apart, so that another test is refused here
  pub expect_test : begins text "expect" t ≡ expectation_line text l
  unfolding expectation_line
  expect_test = refl

  outside_agrees : is_bad (outside_step text t).role ≡ false → Agree text l (outside_step text t) (plain_below text l)
  unfolding outside_step plain_below skipped
  outside_agrees ok = outside_tests (is_empty t) (begins text "#" t) (expectation_line text l) (begins text "# nwscript" t) refl refl expect_test refl ok

  entry_tests : (i e h x : Bool) → is_empty t ≡ e → begins text "#" t ≡ h → begins text "expect" t ≡ x
      → is_bad (if i & (e or h) then step Nothing InEntry else if i & x then step (expect_role text t) InEntry else outside_step text t).role ≡ false
      → Agree text l (if i & (e or h) then step Nothing InEntry else if i & x then step (expect_role text t) InEntry else outside_step text t) (plain_below text l)
  unfolding plain_below expectation_line expectation_of stated
  entry_tests false e h x fe fh fx ok = outside_agrees ok
  entry_tests true true h x fe fh fx ok = rw fe (record { mark = refl; next = refl; same = refl })
  entry_tests true false true x fe fh fx ok = rw (fe, fh) (record { mark = refl; next = refl; same = refl })
  entry_tests true false false true fe fh fx ok = rw (fe, fh, fx) (record { mark = expect_is ok; next = refl; same = refl })
  entry_tests true false false false fe fh fx ok = outside_agrees ok

  entry_agrees : is_bad (entry_step text (inward text l) t).role ≡ false → Agree text l (entry_step text (inward text l) t) (plain_below text l)
  unfolding entry_step
  entry_agrees ok = entry_tests (inward text l) (is_empty t) (begins text "#" t) (begins text "expect" t) refl refl refl ok

  -- a line that is no expectation states none
  quiet : (r : Role) → plain_of l r ≡ other → expectation_of l.number r ≡ []
  unfolding expectation_of
  quiet Nothing h = refl
  quiet (Says s) h = refl
  quiet (Expects e) h = let z : ◌≡◌ {A = Bool} true false = cc in absurd (true≢false z)
  quiet (Opens o) h = refl
  quiet (Bad n) h = refl

  -- ---- argument lines

  says_is : (s : Saying) (o : Option Reason) → plain_of l (says_or s o) ≡ other
  says_is s None = refl
  says_is s (Some n) = refl

  after_is : (takes : Takes) (list_open : Bool) → standing (after_saying takes (saying_in text takes list_open t)) ≡ remaining text takes t
  unfolding remaining saying_in
  after_is NoLines list_open = refl
  after_is Options list_open = after_keyword Options options (saying_in text Options list_open t)
  after_is Garbage list_open = after_keyword Garbage garbage (saying_in text Garbage list_open t)
  after_is Verify list_open = after_keyword Verify verify (saying_in text Verify list_open t)
  after_is Texts list_open = after_keyword Texts texts (saying_in text Texts list_open t)
  after_is Store list_open = after_keyword Store store (saying_in text Store list_open t)
  after_is Multiple list_open = after_keyword Multiple multiple (saying_in text Multiple list_open t)
  after_is FirstData list_open = after_first (saying_in text FirstData false t)
  after_is FirstRaw list_open = after-raw (saying_in text FirstRaw false t)

  block_tests : (rules : Rules) (takes : Takes) (list_open a : Bool)
      → is_bad (if a then argument_step rules text takes list_open t else entry_step text (inward text l) t).role ≡ false
      → Agree text l (if a then argument_step rules text takes list_open t else entry_step text (inward text l) t)
      (if a then plainly other (remaining text takes t) else plain_below text l)
  unfolding argument_step
  block_tests rules takes list_open true ok =
      let s = saying_in text takes list_open t in
      let q : plain_of l (says_or s (refusal_of rules text s)) ≡ other = says_is s (refusal_of rules text s) in
      record { mark = q; next = after_is takes list_open; same = quiet (says_or s (refusal_of rules text s)) q }
  block_tests rules takes list_open false ok = entry_agrees ok

  -- ---- the preamble

  said : (k₁ k₂ k₃ : Key) (a b c : Option Span) → plain_of l (first_of (saying text k₁ a ∷ saying text k₂ b ∷ saying text k₃ c ∷ []) Nothing) ≡ other
  unfolding first_of saying
  said k₁ k₂ k₃ (Some a) b c = refl
  said k₁ k₂ k₃ None (Some b) c = refl
  said k₁ k₂ k₃ None None (Some c) = refl
  said k₁ k₂ k₃ None None None = refl

  comment_is : plain_of l (comment_role text t) ≡ other
  unfolding comment_role
  comment_is = said _ _ _ _ _ _

  version-is : (v : Option ProtocolVersion) (p : Span) → plain_of l (version_role v p) ≡ other
  unfolding version_role
  version-is None p = refl
  version-is (Some v) p = refl

  words : (k : Key) (a b : Option Span) → plain_of l (first_of (protocol_role text a ∷ saying text k b ∷ []) (refused UnexpectedPreambleLine)) ≡ other
  unfolding first_of saying protocol_role
  words k (Some a) b = version-is (version (bytes text (trim text a))) (trim text a)
  words k None (Some b) = refl
  words k None None = refl

  word_is : plain_of l (word_role text t) ≡ other
  unfolding word_role
  word_is = words _ _ _

  preamble_expect_lem : (a : Bool) → is_bad (if a then expect_role text t else refused UnexpectedPreambleLine) ≡ false
      → (plain_of l (if a then expect_role text t else refused UnexpectedPreambleLine) ≡ expects l) × (expectation_of l.number (if a then expect_role text t else refused UnexpectedPreambleLine) ≡ stated text l)
  unfolding stated
  preamble_expect_lem true ok = (expect_is ok, refl)
  preamble_expect_lem false ok = absurd (true≢false ok)

  preamble_tests : (e h x : Bool) → is_empty t ≡ e → begins text "#" t ≡ h → begins text "expect" t ≡ x
      → is_bad (if e then Nothing else if h then comment_role text t else if x then preamble_expect text t else word_role text t) ≡ false
      → (plain_of l (if e then Nothing else if h then comment_role text t else if x then preamble_expect text t else word_role text t) ≡ (if x then expects l else other))
      × (expectation_of l.number (if e then Nothing else if h then comment_role text t else if x then preamble_expect text t else word_role text t) ≡ stated_in text (if x then expects l else other))
  unfolding preamble_expect expectation_of stated
  preamble_tests true h x fe fh fx ok = rw (sym fx ∙ empty_begins text t fe) (refl, refl)
  preamble_tests false true x fe fh fx ok = rw (sym fx ∙ hash_begins text t fh) (comment_is, quiet (comment_role text t) comment_is)
  preamble_tests false false true fe fh fx ok = preamble_expect_lem (begins text "expect " t or begins text "expect:" t) ok
  preamble_tests false false false fe fh fx ok = (word_is, quiet (word_role text t) word_is)

  pub above_is : (if begins text "expect" t then expects l else other) ≡ plain_above text l
  unfolding plain_above
  above_is = ap (λ (x : Bool). if x then expects l else other) expect_test

  above_tests : (d : Bool) → is_bad (if d then step Nothing Outside else step (preamble_role text t) InPreamble).role ≡ false
      → Agree text l (if d then step Nothing Outside else step (preamble_role text t) InPreamble) (if d then plainly other below else plainly (plain_above text l) above)
  unfolding preamble_role expectation_of
  above_tests true ok = record { mark = refl; next = refl; same = refl }
  above_tests false ok =
      let (m, s) = preamble_tests (is_empty t) (begins text "#" t) (begins text "expect" t) refl refl refl ok in
      record { mark = m ∙ above_is; next = refl; same = s ∙ ap (stated_in text) above_is }

  -- ---- every line

  pub agree : (rules : Rules) (w : Where) → is_bad (step_of rules text w l).role ≡ false → Agree text l (step_of rules text w l) (plain_step text (standing w) l)
  unfolding step_of step_at plain_step preamble_step block_step
  agree rules InPreamble ok = above_tests (is text "---" t) ok
  agree rules Outside ok = outside_agrees ok
  agree rules (InBlock takes list_open) ok = block_tests rules takes list_open (argument_line text (inward text l) t) ok
  agree rules InEntry ok = entry_agrees ok

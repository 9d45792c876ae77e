-- Every piece that a line hands on lies inside the text: what stands behind an operation's name, and what is said. So the code need not say so.
-- Assumes nothing.
use Prim.Native.Nat.{ℕ, suc, ◌+◌, ◌-◌, ◌≤◌, ◌<◌}
use mathlib.Core.Path.{◌≡◌, refl, sym}
use mathlib.Core.Bool.{Bool, true, false}
use mathlib.Core.List.{List, [], ◌∷◌}
use native.Mathlib.Omega.{arith}
use lib.Dec.{eqb}
use lib.ListN.{length}
use Rattle.std.specs.Prelude.{if◌then◌else◌, Err, None, Ok, Option, Some}
use Rattle.text.specs.Base.{◌&◌, ◌or◌, BLANK, QUOTE}
use Rattle.text.specs.Lines.{indented}
use Rattle.text.specs.Parts.{span, starts_with, pair_position_from, pair_position}
use Rattle.text.specs.declared.parts.Span.{Span}
use Rattle.text.specs.declared.lines.Line.{Line}
use Rattle.text.proofs.Scan.{never, both, by_cases}
use Rattle.wire.specs.Operations.{named}
use Rattle.version.specs.Version.{version}
use Rattle.wire.specs.declared.ops.Op.{Op}
use Rattle.version.specs.declared.ProtocolVersion.{ProtocolVersion}
use Rattle.script.specs.Answers.{◌>>=◌, Answer}
use Rattle.script.specs.Pieces.{Cut, cut_into, bytes, is_empty, is, begins, behind, trim, cut, cut_or}
use Rattle.script.specs.Operations.{keys_of, key_in, form_of}
use Rattle.script.specs.Values.{Rules}
use Rattle.script.specs.Timestamps.{stamped_as, with_time, stamped_at, stamped}
use Rattle.script.specs.Expectations.{COLON, expectation}
use Rattle.script.specs.Roles.{line_span, opening, expecting, expect_role, says_or, behind_signs, version_role, saying, comment_role, protocol_role, word_role, preamble_expect, preamble_role, preamble_step, set_on, open_on, with_name, with_stamp, opening_role, skipped, outside_step, entry_step, argument_line, pair_in, keyed, key_saying, raw_saying, option_saying, saying_in, refusal_of, argument_step, block_step, step_at, step_of, refused}
use Rattle.script.specs.Inside.{In, SayingIn, RoleIn}
use Rattle.script.specs.declared.records.Time.{Time}
use Rattle.script.specs.declared.records.Expect.{Expect}
use Rattle.script.specs.declared.refusals.Reason.{Reason}
use Rattle.script.specs.declared.roles.Key.{Key}
use Rattle.script.specs.declared.roles.Takes.{Takes}
use Rattle.script.specs.declared.roles.Takes.TheVariants.{NoLines, Options, Garbage, Verify, Texts, Store, Multiple, FirstData, FirstRaw}
use Rattle.script.specs.declared.roles.Where.{Where}
use Rattle.script.specs.declared.roles.Where.TheVariants.{InPreamble, Outside, InBlock, InEntry}
use Rattle.script.specs.declared.roles.Saying.{Saying}
use Rattle.script.specs.declared.roles.Saying.TheVariants.{Known, Pair, NoColon, Unknown, NoPair, NoRaw}
use Rattle.script.specs.declared.roles.Role.TheVariants.{Nothing, Opens}
use Rattle.script.specs.declared.roles.Step.{Step}
use Rattle.script.proofs.Inside.{length-bytes, trim_in, Opt, behind_in, CutIn, cut_in, first_in}
use Rattle.script.specs.declared.refusals.Reason.TheVariants.{BraceNotClosed, UnexpectedPreambleLine, UnknownExpectation}
use Rattle.script.specs.declared.roles.Stamped.{Stamped}

-- ---- cuts

pub cut_or_in : (text : List ℕ) (b : ℕ) (p : Span) → In text p → CutIn text (cut_or text b p)
unfolding cut_or
cut_or_in text b p i = go (cut text b p) (cut_in text b p i)
  where
    go : (o : Option Cut) → Opt (CutIn text) o → CutIn text (elim o [ None ↦ cut_into p (span p.end p.end) | Some c ↦ c ])
    go None h = (i, record { forward = omega arith; inside = i.inside })
    go (Some c) h = h

two : (a b x : ℕ) (s : List ℕ) → starts_with (a ∷ b ∷ []) (x ∷ s) ≡ true → 1 ≤ length s
unfolding starts_with
two a b x [] t = never (sym (both (eqb x a) false t).1)
two a b x (y ∷ s) t = omega arith

pair_from : (a b : ℕ) (s : List ℕ) (at n : ℕ) → pair_position_from a b at s ≡ Some n → n + 1 < at + length s
unfolding pair_position_from
pair_from a b [] at n = λ e. let z : ◌≡◌ {A = ℕ} 0 1 = cc in omega arith
pair_from a b (x ∷ s) at n = go (starts_with (a ∷ b ∷ []) (x ∷ s)) refl (pair_from a b s (at + 1) n)
  where
    go : (t : Bool) → starts_with (a ∷ b ∷ []) (x ∷ s) ≡ t → (pair_position_from a b (at + 1) s ≡ Some n → n + 1 < at + 1 + length s)
        → (if t then Some at else pair_position_from a b (at + 1) s) ≡ Some n → n + 1 < at + length (x ∷ s)
    go true q ih e = let z : at ≡ n = cc in omega (arith, two a b x s q)
    go false q ih e = omega (arith, ih e)

-- the first pair stands inside
pub pair_inside : (a b : ℕ) (s : List ℕ) (n : ℕ) → pair_position a b s ≡ Some n → n + 1 < length s
unfolding pair_position
pair_inside a b s n e = omega (arith, pair_from a b s 0 n e)

module _ (text : List ℕ) where
  -- ---- opening lines

  abbrev StampedIn : Answer Stamped → Type 0
  StampedIn (Ok s) = In text s.rest
  StampedIn (Err n) = Unit {0}

  with_time_in : (a : Answer Time) (q : Span) → In text q → StampedIn (with_time a q)
  unfolding with_time
  with_time_in (Ok t) q i = i
  with_time_in (Err n) q i = tt

  stamped_at_in : (r : Span) → In text r → (o : Option ℕ) → pair_position 0x6D 0x73 (bytes text r) ≡ o → StampedIn (stamped_at text r o)
  unfolding stamped_at
  stamped_at_in r i None e = tt
  stamped_at_in r i (Some n) e =
      let h : n + 1 < r.end - r.start = omega (arith, pair_inside 0x6D 0x73 (bytes text r) n e, length-bytes text r i) in
      with_time_in _ _ (trim_in text (span (r.start + n + 2) r.end) (record { forward = omega (arith, i.forward); inside = i.inside }))

  stamped_in : (p : Span) → In text p → StampedIn (stamped text p)
  unfolding stamped
  stamped_in p i = go (behind text "@" p) (behind_in text "@" p i)
    where
      go : (o : Option Span) → Opt (In text) o → StampedIn (elim o [ None ↦ Ok (stamped_as None p) | Some r ↦ stamped_at text r (pair_position 0x6D 0x73 (bytes text r)) ])
      go None h = i
      go (Some r) h = stamped_at_in r h _ refl

  with_name_in : (stamp : Option Time) (o : Option Op) (args : Span) → In text args → RoleIn text (with_name text stamp o args)
  unfolding with_name RoleIn
  with_name_in stamp None args i = tt
  with_name_in stamp (Some op) args i = by_cases (RoleIn text) (open_on text (set_on text (form_of op).syntax args)) (refused BraceNotClosed) (Opens (opening stamp op args)) tt i

  with_stamp_in : (a : Answer Stamped) → StampedIn a → RoleIn text (with_stamp text a)
  unfolding with_stamp RoleIn
  with_stamp_in (Err n) i = tt
  with_stamp_in (Ok s) i =
      let c : Cut = cut_or text BLANK s.rest in
      with_name_in s.stamp (named (bytes text c.before)) (trim text c.after) (trim_in text c.after (cut_or_in text BLANK s.rest i).1)

  opening_in : (t : Span) → In text t → RoleIn text (opening_role text t)
  unfolding opening_role
  opening_in t i = with_stamp_in (stamped text t) (stamped_in t i)

  -- ---- expectations hand on no piece

  expecting_in : (a : Answer Expect) → RoleIn text (expecting a)
  unfolding RoleIn
  expecting_in (Ok e) = tt
  expecting_in (Err n) = tt

  expect_in_lem : (t : Span) → RoleIn text (expect_role text t)
  unfolding expect_role RoleIn
  expect_in_lem t = go (behind text "expect" t)
    where
      go : (o : Option Span) → RoleIn text (elim o [ None ↦ refused UnknownExpectation | Some rest ↦ expecting (expectation text (trim text rest)) ])
      go None = tt
      go (Some rest) = expecting_in (expectation text (trim text rest))

  -- ---- the preamble

  saying_role_in : (k : Key) (o : Option Span) → Opt (In text) o → Opt (RoleIn text) (saying text k o)
  unfolding saying RoleIn SayingIn
  saying_role_in k None h = tt
  saying_role_in k (Some rest) h = trim_in text rest h

  signs_in : (at : ℕ) (s : List ℕ) → (at ≤ behind_signs at s) × (behind_signs at s ≤ at + length s)
  unfolding behind_signs
  signs_in at [] = (omega arith, omega arith)
  signs_in at (x ∷ s) =
      let ih = signs_in (at + 1) s in
      by_cases (λ (n : ℕ). (at ≤ n) × (n ≤ at + suc (length s))) (eqb x 0x23) _ _ (omega arith, omega arith) (omega arith, omega arith)

  comment_in_lem : (t : Span) → In text t → RoleIn text (comment_role text t)
  unfolding comment_role RoleIn
  comment_in_lem t i =
      let k = signs_in t.start (bytes text t) in
      let j = trim_in text (span (behind_signs t.start (bytes text t)) t.end) (record { forward = omega (arith, length-bytes text t i, i.forward); inside = i.inside }) in
      first_in (RoleIn text) _ Nothing
      (saying_role_in Key.DaemonVersion _ (behind_in text "daemon:" _ j), (saying_role_in Key.TrustStatus _ (behind_in text "trust:" _ j), (saying_role_in Key.ServerFeatures _ (behind_in text "server_features:" _ j), tt)))
      tt

  version_in : (o : Option ProtocolVersion) (p : Span) → In text p → RoleIn text (version_role o p)
  unfolding version_role RoleIn SayingIn
  version_in None p i = tt
  version_in (Some v) p i = i

  protocol_in : (o : Option Span) → Opt (In text) o → Opt (RoleIn text) (protocol_role text o)
  unfolding protocol_role
  protocol_in None h = tt
  protocol_in (Some rest) h = version_in (version (bytes text (trim text rest))) (trim text rest) (trim_in text rest h)

  word_in : (t : Span) → In text t → RoleIn text (word_role text t)
  unfolding word_role RoleIn
  word_in t i =
      first_in (RoleIn text) _ (refused UnexpectedPreambleLine)
      (protocol_in _ (behind_in text "protocol:" t i), (saying_role_in Key.Features _ (behind_in text "features:" t i), tt))
      tt

  preamble_in : (t : Span) → In text t → RoleIn text (preamble_step text t).role
  unfolding preamble_step preamble_role preamble_expect RoleIn
  preamble_in t i =
      by_cases (λ (s : Step). RoleIn text s.role) (is text "---" t) _ _ tt
      (by_cases (RoleIn text) (is_empty t) Nothing _ tt
      (by_cases (RoleIn text) (begins text "#" t) _ _ (comment_in_lem t i)
      (by_cases (RoleIn text) (begins text "expect" t) _ _
      (by_cases (RoleIn text) (begins text "expect " t or begins text "expect:" t) _ (refused UnexpectedPreambleLine) (expect_in_lem t) tt)
      (word_in t i))))

  -- ---- below the `---` line

  outside_in : (t : Span) → In text t → RoleIn text (outside_step text t).role
  unfolding outside_step RoleIn
  outside_in t i = by_cases (λ (s : Step). RoleIn text s.role) (skipped text t) _ _ tt (opening_in t i)

  entry_in : (inward : Bool) (t : Span) → In text t → RoleIn text (entry_step text inward t).role
  unfolding entry_step RoleIn
  entry_in inward t i =
      by_cases (λ (s : Step). RoleIn text s.role) (inward & (is_empty t or begins text "#" t)) _ _ tt
      (by_cases (λ (s : Step). RoleIn text s.role) (inward & begins text "expect" t) _ _ (expect_in_lem t) (outside_in t i))

  -- ---- argument lines

  pair_in_lem : (t : Span) → In text t → Opt (SayingIn text) (pair_in text t)
  unfolding pair_in SayingIn
  pair_in_lem t i = go (behind text "\"" t) (behind_in text "\"" t i)
    where
      last : (name : Span) → In text name → (o : Option Cut) → Opt (CutIn text) o → Opt (SayingIn text) (o >>= λ value. Some (Pair name value.before))
      last name j None h = tt
      last name j (Some value) h = (j, h.0)

      quoted : (name : Span) → In text name → (o : Option Span) → Opt (In text) o
          → Opt (SayingIn text) (o >>= λ c. cut text QUOTE c >>= λ value. Some (Pair name value.before))
      quoted name j None h = tt
      quoted name j (Some c) h = last name j (cut text QUOTE c) (cut_in text QUOTE c h)

      equals : (name : Span) → In text name → (o : Option Span) → Opt (In text) o
          → Opt (SayingIn text) (o >>= λ b. behind text "\"" (trim text b) >>= λ c. cut text QUOTE c >>= λ value. Some (Pair name value.before))
      equals name j None h = tt
      equals name j (Some b) h = quoted name j (behind text "\"" (trim text b)) (behind_in text "\"" (trim text b) (trim_in text b h))

      named_in : (o : Option Cut) → Opt (CutIn text) o
          → Opt (SayingIn text)
          (o >>= λ name. behind text "=" (trim text name.after) >>= λ b. behind text "\"" (trim text b) >>= λ c. cut text QUOTE c >>= λ value. Some (Pair name.before value.before))
      named_in None h = tt
      named_in (Some name) h = equals name.before h.0 (behind text "=" (trim text name.after)) (behind_in text "=" (trim text name.after) (trim_in text name.after h.1))

      go : (o : Option Span) → Opt (In text) o
          → Opt (SayingIn text)
          (o >>= λ a. cut text QUOTE a >>= λ name. behind text "=" (trim text name.after) >>= λ b. behind text "\"" (trim text b) >>= λ c. cut text QUOTE c >>= λ value. Some (Pair name.before value.before))
      go None h = tt
      go (Some a) h = named_in (cut text QUOTE a) (cut_in text QUOTE a h)

  keyed_in : (keys : List Key) (c : Cut) → CutIn text c → SayingIn text (keyed text keys c)
  unfolding keyed SayingIn
  keyed_in keys c h = go (key_in keys (bytes text (trim text c.before)))
    where
      go : (o : Option Key) → SayingIn text (elim o [ None ↦ Unknown (trim text c.before) (trim text c.after) | Some k ↦ Known k (trim text c.after) ])
      go None = (trim_in text c.before h.0, trim_in text c.after h.1)
      go (Some k) = trim_in text c.after h.1

  key_in_lem : (keys : List Key) (t : Span) → In text t → SayingIn text (key_saying text keys t)
  unfolding key_saying SayingIn
  key_in_lem keys t i = go (cut text COLON t) (cut_in text COLON t i)
    where
      go : (o : Option Cut) → Opt (CutIn text) o → SayingIn text (elim o [ None ↦ NoColon | Some c ↦ keyed text keys c ])
      go None h = tt
      go (Some c) h = keyed_in keys c h

  raw_in : (t : Span) → In text t → SayingIn text (raw_saying text t)
  unfolding raw_saying SayingIn
  raw_in t i = go (behind text "raw x\"" t) (behind_in text "raw x\"" t i)
    where
      go : (o : Option Span) → Opt (In text) o → SayingIn text (elim o [ None ↦ NoRaw | Some hex ↦ Known Key.Raw hex ])
      go None h = tt
      go (Some hex) h = h

  option_in : (list_open : Bool) (t : Span) → In text t → SayingIn text (option_saying text list_open t)
  unfolding option_saying SayingIn
  option_in list_open t i = by_cases (SayingIn text) (list_open & begins text "\"" t) _ _ (go (pair_in text t) (pair_in_lem t i)) (key_in_lem (keys_of Options) t i)
    where
      go : (o : Option Saying) → Opt (SayingIn text) o → SayingIn text (elim o [ None ↦ NoPair | Some p ↦ p ])
      go None h = tt
      go (Some p) h = h

  said_in : (takes : Takes) (list_open : Bool) (t : Span) → In text t → SayingIn text (saying_in text takes list_open t)
  unfolding saying_in SayingIn
  said_in NoLines list_open t i = tt
  said_in Options list_open t i = option_in list_open t i
  said_in Garbage list_open t i = key_in_lem (keys_of Garbage) t i
  said_in Verify list_open t i = key_in_lem (keys_of Verify) t i
  said_in Texts list_open t i = key_in_lem (keys_of Texts) t i
  said_in Store list_open t i = key_in_lem (keys_of Store) t i
  said_in Multiple list_open t i = key_in_lem (keys_of Multiple) t i
  said_in FirstData list_open t i = key_in_lem (keys_of FirstData) t i
  said_in FirstRaw list_open t i = raw_in t i

  says_or_in : (s : Saying) (o : Option Reason) → SayingIn text s → RoleIn text (says_or s o)
  unfolding RoleIn
  says_or_in s None i = i
  says_or_in s (Some n) i = tt

  -- ---- every line

  module _ (rules : Rules) where
    block_in : (takes : Takes) (list_open inward : Bool) (t : Span) → In text t → RoleIn text (block_step rules text takes list_open inward t).role
    unfolding block_step argument_step
    block_in takes list_open inward t i =
        by_cases (λ (s : Step). RoleIn text s.role) (argument_line text inward t) _ _ (says_or_in _ (refusal_of rules text (saying_in text takes list_open t)) (said_in takes list_open t i)) (entry_in inward t i)

    at_in : (w : Where) (inward : Bool) (t : Span) → In text t → RoleIn text (step_at rules text w inward t).role
    unfolding step_at
    at_in InPreamble inward t i = preamble_in t i
    at_in Outside inward t i = outside_in t i
    at_in (InBlock takes list_open) inward t i = block_in takes list_open inward t i
    at_in InEntry inward t i = entry_in inward t i

    pub role_in : (w : Where) (l : Line) → In text (line_span l) → RoleIn text (step_of rules text w l).role
    unfolding step_of
    role_in w l i = at_in w (indented (bytes text (line_span l))) (trim text (line_span l)) (trim_in text (line_span l) i)

-- Laws of the numbers of an operation, of an entry, of an expectation and of an answer. Assumes nothing.
use Rattle.std.specs.Prelude.{Err, None, Ok, Option, Some}
use Prim.Native.Nat.{ℕ, zero, suc, ◌+◌, ◌≤◌, ◌<◌}
use mathlib.Core.Path.{◌≡◌, refl, sym, ap, ◌∙◌}
use mathlib.Core.List.{List, [], ◌∷◌, ◌++◌}
use mathlib.Core.Bool.{Bool}
use mathlib.Core.Logic.{inl, inr}
use native.Mathlib.Omega.{arith}
use lib.IntN.{ℤ}
use lib.ListN.{length, get_or, length-append}
use types.Run.{OneOf}
use denote.Enum.Declared.{tag_of}
use Rattle.script.specs.declared.records.OpCall.{OpCall}
use Rattle.script.specs.declared.records.OpCall.TheVariants.{SinglePath, SingleString, PathSet, PathSetFlag, PathSetMode, NoArgs, SetOptions, CollectGarbage, VerifyStore, AddPermRoot, AddSignatures, AddTextToStore, AddToStore, AddMultipleToStore, AddBuildLog, RegisterDrvOutput, QueryRealisation, QuerySubstitutablePathInfo, QuerySubstitutablePathInfos, RawBytes}
use Rattle.script.specs.contracts.records.OpCall.{the_type}
use Rattle.script.specs.declared.records.Entry.{Entry}
use Rattle.script.specs.declared.records.Expect.{Expect}
use Rattle.script.specs.declared.records.Expect.TheVariants.{Terminal, Result, ResultField, Error, StderrCount, Daemon, Trust, ServerFeatures}
use Rattle.script.specs.declared.records.Expectation.{Expectation}
use Rattle.script.specs.declared.records.FramedData.{FramedData}
use Rattle.script.specs.declared.records.Items.{Items}
use Rattle.script.specs.declared.records.Matcher.{Matcher}
use Rattle.script.specs.declared.records.Matcher.TheVariants.{Exact, Regex, GreaterThan, LessThan, GreaterOrEqual, LessOrEqual}
use Rattle.script.specs.declared.records.Place.{Place}
use Rattle.script.specs.declared.records.Script.{Script}
use Rattle.script.specs.declared.records.Time.{Time}
use Rattle.wire.specs.declared.ops.Op.{Op}
use Rattle.wire.specs.Operations.{operation}
use Rattle.call_fields.specs.CallFields.{padded, flag, place_numbers, items_numbers, data_numbers}
use Rattle.call_fields.proofs.FieldLaws.{spread, spread-is, padded-length}
use Rattle.numbers.specs.Numbers.{unsigned, stamp_numbers, call_row, call_numbers, entry_head, entry_numbers, matcher_numbers, expect_numbers, expectation_numbers, maybe_numbers, maybe_items_numbers, counts_numbers, script_numbers, head_numbers}
use Rattle.script.specs.Reading.{Parsed}
use Rattle.script.specs.Refusals.{reason_number}

-- ---- the kinds of an operation

-- by its tag
row_tag : (c : OpCall) → get_or (call_numbers c) 0 0 ≡ tag_of the_type c + 1
unfolding call_row call_numbers padded
row_tag (SinglePath op path) = refl
row_tag (SingleString op value) = refl
row_tag (PathSet op paths) = refl
row_tag (PathSetFlag op paths substitute) = refl
row_tag (PathSetMode op paths mode) = refl
row_tag (NoArgs op) = refl
row_tag (SetOptions o) = refl
row_tag (CollectGarbage action paths ignore freed) = refl
row_tag (VerifyStore check repair) = refl
row_tag (AddPermRoot path root) = refl
row_tag (AddSignatures path sigs) = refl
row_tag (AddTextToStore suffix text refs) = refl
row_tag (AddToStore name cam refs repair d) = refl
row_tag (AddMultipleToStore repair unchecked d) = refl
row_tag (AddBuildLog path d) = refl
row_tag (RegisterDrvOutput value) = refl
row_tag (QueryRealisation value) = refl
row_tag (QuerySubstitutablePathInfo path) = refl
row_tag (QuerySubstitutablePathInfos paths) = refl
row_tag (RawBytes op d) = refl

-- n numbers from a on
abbrev pub run : (a n : ℕ) → List ℕ
run a zero = []
run a (suc n) = a ∷ run (suc a) n

in_run : (a n x : ℕ) → OneOf (run a (suc n)) x → (a ≤ x) × (x ≤ a + n)
in_run a zero x h = (omega (arith, h), omega (arith, h))
in_run a (suc n) x (inl h) = (omega (arith, h), omega (arith, h))
in_run a (suc n) x (inr h) = let i = in_run (suc a) n x h in (omega (arith, i.0), omega (arith, i.1))

-- the last arm of `later_numbers` has the first nine kinds, that of `call_numbers` the others
pub not_early : (c : OpCall) → 9 < get_or (call_numbers c) 0 0 → OneOf (run 0 9) (tag_of the_type c) → (r : List ℕ) → r ≡ call_numbers c
not_early c h k r = absurd (omega (arith, row_tag c, (in_run 0 8 (tag_of the_type c) k).1))

pub is_late : (c : OpCall) → OneOf (run 9 11) (tag_of the_type c) → 9 < get_or (call_numbers c) 0 0
is_late c k = omega (arith, row_tag c, (in_run 9 10 (tag_of the_type c) k).0)

-- c is an operation of a known kind
pub call_by : (c d : OpCall) → c ≡ d → (r : List ℕ) → r ≡ call_numbers d → r ≡ call_numbers c
call_by c d e r h = h ∙ ap call_numbers (sym e)

-- where a field is a flag
module _ (c : OpCall) (r : List ℕ) (a b : Bool) (k l : ℕ) (p : k ≡ flag a) (q : l ≡ flag b) where
  pub verify_row : c ≡ VerifyStore a b → r ≡ padded 16 (9 ∷ 0 ∷ k ∷ l ∷ 0 ∷ 0 ∷ 0 ∷ 0 ∷ []) → r ≡ call_numbers c
  unfolding call_row call_numbers padded
  verify_row e h = h ∙ rw (e, p, q)

  pub multiple_row : (d : FramedData) → c ≡ AddMultipleToStore a b d → r ≡ padded 16 (14 ∷ 0 ∷ k ∷ l ∷ data_numbers d) → r ≡ call_numbers c
  unfolding call_row call_numbers
  multiple_row d e h = h ∙ rw (e, p, q)

-- where the record has the operation, k is its code
module _ (c : OpCall) (r : List ℕ) (op : Op) (k : ℕ) (q : k ≡ (operation op).code) where
  pub path_row : (path : Place) → c ≡ SinglePath op path → r ≡ padded 16 (1 ∷ k ∷ place_numbers path) → r ≡ call_numbers c
  unfolding call_row call_numbers
  path_row path e h = h ∙ rw (e, q)

  pub string_row : (value : Place) → c ≡ SingleString op value → r ≡ padded 16 (2 ∷ k ∷ place_numbers value) → r ≡ call_numbers c
  unfolding call_row call_numbers
  string_row value e h = h ∙ rw (e, q)

  pub set-row : (paths : Items) → c ≡ PathSet op paths → r ≡ padded 16 (3 ∷ k ∷ items_numbers paths) → r ≡ call_numbers c
  unfolding call_row call_numbers
  set-row paths e h = h ∙ rw (e, q)

  pub flag-row : (paths : Items) (b : Bool) (l : ℕ) → l ≡ flag b → c ≡ PathSetFlag op paths b → r ≡ padded 16 ((4 ∷ k ∷ items_numbers paths) ++ (l ∷ 0 ∷ [])) → r ≡ call_numbers c
  unfolding call_row call_numbers padded items_numbers
  flag-row paths b l p e h = h ∙ rw (e, p, q)

  pub mode_row : (paths : Items) (mode : Place) → c ≡ PathSetMode op paths mode → r ≡ padded 16 ((5 ∷ k ∷ items_numbers paths) ++ place_numbers mode) → r ≡ call_numbers c
  unfolding call_row call_numbers
  mode_row paths mode e h = h ∙ rw (e, q)

  pub bare_row : c ≡ NoArgs op → r ≡ padded 16 (6 ∷ k ∷ 0 ∷ 0 ∷ 0 ∷ 0 ∷ 0 ∷ 0 ∷ []) → r ≡ call_numbers c
  unfolding call_row call_numbers padded
  bare_row e h = h ∙ rw (e, q)

  pub raw_row : (d : Place) → c ≡ RawBytes op d → r ≡ padded 16 (20 ∷ k ∷ place_numbers d) → r ≡ call_numbers c
  unfolding call_row call_numbers
  raw_row d e h = h ∙ rw (e, q)

-- ---- a timestamp, an entry

stamp_four : (s : Option Time) → length (stamp_numbers s) ≡ 4
unfolding stamp_numbers
stamp_four None = refl
stamp_four (Some t) = refl

pub stamp_by : (s x : Option Time) → s ≡ x → (r : List ℕ) → r ≡ stamp_numbers x → r ≡ stamp_numbers s
stamp_by s x e r h = h ∙ ap stamp_numbers (sym e)

pub stamp_at : (s : Option Time) (t : Time) (k l : ℕ) → s ≡ Some t → k ≡ flag t.negative → l ≡ unsigned t.decimals → 1 ∷ k ∷ t.digits ∷ l ∷ [] ≡ stamp_numbers s
unfolding stamp_numbers
stamp_at s t k l e p q = rw (e, p, q)

call_sixteen : (c : OpCall) → length (call_numbers c) ≡ 16
unfolding call_numbers
call_sixteen c = padded-length 16 (call_row c)

pub head_is : (e : Entry) (s : List ℕ) → s ≡ stamp_numbers e.timestamp_ms → (e.line ∷ spread 0 4 s) ++ items_numbers e.expects ≡ entry_head e
unfolding entry_head
head_is e s p = ap (λ (l : List ℕ). (e.line ∷ l) ++ items_numbers e.expects) (spread-is 4 s (stamp_numbers e.timestamp_ms) p (stamp_four e.timestamp_ms))

pub entry_count : (e : Entry) → length (entry_numbers e) ≡ 23
unfolding entry_numbers entry_head items_numbers
entry_count e =
    length-append (entry_head e) (call_numbers e.op_call)
    ∙ rw (length-append (stamp_numbers e.timestamp_ms) (items_numbers e.expects), stamp_four e.timestamp_ms, call_sixteen e.op_call)

-- ---- an expectation

matcher_three : (m : Matcher) → length (matcher_numbers m) ≡ 3
unfolding matcher_numbers place_numbers
matcher_three (Exact p) = refl
matcher_three (Regex p) = refl
matcher_three (GreaterThan i) = refl
matcher_three (LessThan i) = refl
matcher_three (GreaterOrEqual i) = refl
matcher_three (LessOrEqual i) = refl

pub matcher_by : (m x : Matcher) → m ≡ x → (r : List ℕ) → r ≡ matcher_numbers x → r ≡ matcher_numbers m
matcher_by m x e r h = h ∙ ap matcher_numbers (sym e)

-- where it compares with an integer
module _ (m : Matcher) (i : ℤ) (k : ℕ) (p : k ≡ unsigned i) where
  pub greater_is : m ≡ GreaterThan i → 3 ∷ k ∷ 0 ∷ [] ≡ matcher_numbers m
  unfolding matcher_numbers
  greater_is e = rw (e, p)

  pub less_is : m ≡ LessThan i → 4 ∷ k ∷ 0 ∷ [] ≡ matcher_numbers m
  unfolding matcher_numbers
  less_is e = rw (e, p)

  pub at_least_is : m ≡ GreaterOrEqual i → 5 ∷ k ∷ 0 ∷ [] ≡ matcher_numbers m
  unfolding matcher_numbers
  at_least_is e = rw (e, p)

  pub at_most_is : m ≡ LessOrEqual i → 6 ∷ k ∷ 0 ∷ [] ≡ matcher_numbers m
  unfolding matcher_numbers
  at_most_is e = rw (e, p)

pub matched-is : (kind start len : ℕ) (m : Matcher) (n : List ℕ) → n ≡ matcher_numbers m → kind ∷ start ∷ len ∷ spread 0 3 n ≡ kind ∷ start ∷ len ∷ matcher_numbers m
matched-is kind start len m n e = ap (λ (l : List ℕ). kind ∷ start ∷ len ∷ l) (spread-is 3 n (matcher_numbers m) e (matcher_three m))

expect_six : (x : Expect) → length (expect_numbers x) ≡ 6
unfolding expect_numbers place_numbers
expect_six (Terminal p) = refl
expect_six (Result m) = ap (λ (n : ℕ). suc (suc (suc n))) (matcher_three m)
expect_six (ResultField p m) = ap (λ (n : ℕ). suc (suc (suc n))) (matcher_three m)
expect_six (Error m) = ap (λ (n : ℕ). suc (suc (suc n))) (matcher_three m)
expect_six (StderrCount m) = ap (λ (n : ℕ). suc (suc (suc n))) (matcher_three m)
expect_six (Daemon m) = ap (λ (n : ℕ). suc (suc (suc n))) (matcher_three m)
expect_six (Trust m) = ap (λ (n : ℕ). suc (suc (suc n))) (matcher_three m)
expect_six (ServerFeatures m) = ap (λ (n : ℕ). suc (suc (suc n))) (matcher_three m)

pub expect_by : (e x : Expect) → e ≡ x → (r : List ℕ) → r ≡ expect_numbers x → r ≡ expect_numbers e
expect_by e x q r h = h ∙ ap expect_numbers (sym q)

pub expectation_is : (x : Expectation) (n : List ℕ) → n ≡ expect_numbers x.expect → x.line ∷ spread 0 6 n ≡ expectation_numbers x
unfolding expectation_numbers
expectation_is x n e = ap (λ (l : List ℕ). x.line ∷ l) (spread-is 6 n (expect_numbers x.expect) e (expect_six x.expect))

pub expectation_count : (x : Expectation) → length (expectation_numbers x) ≡ 7
unfolding expectation_numbers
expectation_count x = ap suc (expect_six x.expect)

-- ---- an answer

maybe_three : (m : Option Place) → length (maybe_numbers m) ≡ 3
unfolding maybe_numbers place_numbers
maybe_three None = refl
maybe_three (Some p) = refl

maybe_items_three : (m : Option Items) → length (maybe_items_numbers m) ≡ 3
unfolding maybe_items_numbers items_numbers
maybe_items_three None = refl
maybe_items_three (Some i) = refl

abbrev script_from : Script → (daemon trust server : List ℕ) → List ℕ
script_from s d t f =
    let p = s.preamble in
    (0 ∷ p.protocol_version.major ∷ p.protocol_version.minor ∷ []) ++ items_numbers p.client_features ++ items_numbers p.expects ++ d ++ t ++ f ++ counts_numbers s.counts

pub script-is : (s : Script) (d t f : List ℕ) → d ≡ maybe_numbers s.preamble.daemon_version → t ≡ maybe_numbers s.preamble.trust → f ≡ maybe_items_numbers s.preamble.server_features
    → script_from s (spread 0 3 d) (spread 0 3 t) (spread 0 3 f) ≡ script_numbers s
unfolding script_numbers
script-is s d t f p q r =
    let m = maybe_numbers s.preamble.daemon_version in
    let n = maybe_numbers s.preamble.trust in
    let o = maybe_items_numbers s.preamble.server_features in
    ap (λ (l : List ℕ). script_from s l (spread 0 3 t) (spread 0 3 f)) (spread-is 3 d m p (maybe_three s.preamble.daemon_version))
    ∙ ap (λ (l : List ℕ). script_from s m l (spread 0 3 f)) (spread-is 3 t n q (maybe_three s.preamble.trust))
    ∙ ap (λ (l : List ℕ). script_from s m n l) (spread-is 3 f o r (maybe_items_three s.preamble.server_features))

script_twenty : (s : Script) → length (script_numbers s) ≡ 20
unfolding script_numbers items_numbers counts_numbers
script_twenty s =
    let m = maybe_numbers s.preamble.daemon_version in
    let n = maybe_numbers s.preamble.trust in
    let o = maybe_items_numbers s.preamble.server_features in
    let c = counts_numbers s.counts in
    omega (arith, length-append (m ++ n ++ o) c, length-append (m ++ n) o, length-append m n, maybe_three s.preamble.daemon_version, maybe_three s.preamble.trust, maybe_items_three s.preamble.server_features)

pub head_count : (p : Parsed Script) → length (head_numbers p) ≡ 20
unfolding head_numbers
head_count (Err r) = padded-length 20 (1 ∷ reason_number r.reason ∷ r.line ∷ [])
head_count (Ok s) = script_twenty s

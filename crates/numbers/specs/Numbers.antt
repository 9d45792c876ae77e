-- The records of a script as numbers, and a number as 8 bytes, by which a host sees them. Assumes nothing.
use Rattle.std.specs.Prelude.{ℕ, zero, suc, ◌-◌, ◌/◌, ◌%◌, ℤ, pos, negsuc, get_or, Err, None, Ok, Option, Some}
use mathlib.Core.List.{List, [], ◌∷◌, ◌++◌, flat_map}
use Rattle.wire.specs.Operations.{operation}
use Rattle.script.specs.declared.records.Matcher.{Matcher}
use Rattle.script.specs.declared.records.Matcher.TheVariants.{Exact, Regex, GreaterThan, LessThan, GreaterOrEqual, LessOrEqual}
use Rattle.script.specs.declared.records.Expect.{Expect}
use Rattle.script.specs.declared.records.Expect.TheVariants.{Terminal, Result, ResultField, Error, StderrCount, Daemon, Trust, ServerFeatures}
use Rattle.script.specs.declared.records.Expectation.{Expectation}
use Rattle.script.specs.declared.records.OpCall.{OpCall}
use Rattle.script.specs.declared.records.OpCall.TheVariants.{SinglePath, SingleString, PathSet, PathSetFlag, PathSetMode, NoArgs, SetOptions, CollectGarbage, VerifyStore, AddPermRoot, AddSignatures, AddTextToStore, AddToStore, AddMultipleToStore, AddBuildLog, RegisterDrvOutput, QueryRealisation, QuerySubstitutablePathInfo, QuerySubstitutablePathInfos, RawBytes}
use Rattle.script.specs.declared.records.Entry.{Entry}
use Rattle.script.specs.declared.records.Counts.{Counts}
use Rattle.script.specs.declared.records.Script.{Script}
use Rattle.call_fields.specs.CallFields.{flag, place_numbers, items_numbers, padded, data_numbers, options_numbers}
use Rattle.script.specs.declared.records.Items.{Items}
use Rattle.script.specs.declared.records.Place.{Place}
use Rattle.script.specs.declared.records.Time.{Time}
use Rattle.script.specs.Reading.{Parsed}
use Rattle.script.specs.Refusals.{reason_number}

-- ---- bytes and integers

-- the lowest bytes of a number, the lowest first
unfoldable pub low_bytes : (count n : ℕ) → List ℕ
low_bytes zero n = []
low_bytes (suc count) n = n % 256 ∷ low_bytes count (n / 256)

unfoldable pub bytes_of : ℕ → List ℕ
bytes_of n = low_bytes 8 n

abbrev pub in_bytes : (numbers : List ℕ) → List ℕ
in_bytes numbers = flat_map bytes_of numbers

-- an integer of 64 bits, by its two's complement
unfoldable pub unsigned : ℤ → ℕ
unsigned (pos n) = n
unsigned (negsuc n) = 0xFFFF_FFFF_FFFF_FFFF - n

-- ---- an entry, 23 numbers

unfoldable pub stamp_numbers : Option Time → List ℕ
stamp_numbers None = 0 ∷ 0 ∷ 0 ∷ 0 ∷ []
stamp_numbers (Some t) = 1 ∷ flag t.negative ∷ t.digits ∷ unsigned t.decimals ∷ []

-- the kind of the operation in the order of the declaration, its code where the record has one, else 0, and the other fields
unfoldable pub call_row : OpCall → List ℕ
call_row (SinglePath op path) = 1 ∷ (operation op).code ∷ place_numbers path
call_row (SingleString op value) = 2 ∷ (operation op).code ∷ place_numbers value
call_row (PathSet op paths) = 3 ∷ (operation op).code ∷ items_numbers paths
call_row (PathSetFlag op paths substitute) = (4 ∷ (operation op).code ∷ items_numbers paths) ++ (flag substitute ∷ [])
call_row (PathSetMode op paths mode) = (5 ∷ (operation op).code ∷ items_numbers paths) ++ place_numbers mode
call_row (NoArgs op) = 6 ∷ (operation op).code ∷ []
call_row (SetOptions o) = 7 ∷ 0 ∷ options_numbers o
call_row (CollectGarbage action paths ignore freed) = (8 ∷ 0 ∷ action ∷ items_numbers paths) ++ (ignore ∷ freed ∷ [])
call_row (VerifyStore check repair) = 9 ∷ 0 ∷ flag check ∷ flag repair ∷ []
call_row (AddPermRoot path root) = (10 ∷ 0 ∷ place_numbers path) ++ place_numbers root
call_row (AddSignatures path sigs) = (11 ∷ 0 ∷ place_numbers path) ++ items_numbers sigs
call_row (AddTextToStore suffix text refs) = (12 ∷ 0 ∷ place_numbers suffix) ++ place_numbers text ++ items_numbers refs
call_row (AddToStore name cam refs repair d) = (13 ∷ 0 ∷ place_numbers name) ++ place_numbers cam ++ items_numbers refs ++ (flag repair ∷ data_numbers d)
call_row (AddMultipleToStore repair unchecked d) = 14 ∷ 0 ∷ flag repair ∷ flag unchecked ∷ data_numbers d
call_row (AddBuildLog path d) = (15 ∷ 0 ∷ place_numbers path) ++ data_numbers d
call_row (RegisterDrvOutput value) = 16 ∷ 0 ∷ place_numbers value
call_row (QueryRealisation value) = 17 ∷ 0 ∷ place_numbers value
call_row (QuerySubstitutablePathInfo path) = 18 ∷ 0 ∷ place_numbers path
call_row (QuerySubstitutablePathInfos paths) = 19 ∷ 0 ∷ items_numbers paths
call_row (RawBytes op d) = 20 ∷ (operation op).code ∷ place_numbers d

-- 16 numbers, with zeros behind the row
unfoldable pub call_numbers : OpCall → List ℕ
call_numbers c = padded 16 (call_row c)

-- what stands in front of the call
unfoldable pub entry_head : Entry → List ℕ
entry_head e = (e.line ∷ stamp_numbers e.timestamp_ms) ++ items_numbers e.expects

unfoldable pub entry_numbers : Entry → List ℕ
entry_numbers e = entry_head e ++ call_numbers e.op_call

-- ---- an item, 2 numbers

unfoldable pub item_numbers : (item : List ℕ) → List ℕ
item_numbers item = get_or item 0 0 ∷ get_or item 1 0 ∷ []

-- ---- an expectation, 7 numbers

unfoldable pub matcher_numbers : Matcher → List ℕ
matcher_numbers (Exact p) = 1 ∷ place_numbers p
matcher_numbers (Regex p) = 2 ∷ place_numbers p
matcher_numbers (GreaterThan i) = 3 ∷ unsigned i ∷ 0 ∷ []
matcher_numbers (LessThan i) = 4 ∷ unsigned i ∷ 0 ∷ []
matcher_numbers (GreaterOrEqual i) = 5 ∷ unsigned i ∷ 0 ∷ []
matcher_numbers (LessOrEqual i) = 6 ∷ unsigned i ∷ 0 ∷ []

-- the kind, the place (of what is expected, or of a field's name), the matcher
unfoldable pub expect_numbers : Expect → List ℕ
expect_numbers (Terminal p) = (1 ∷ place_numbers p) ++ (0 ∷ 0 ∷ 0 ∷ [])
expect_numbers (Result m) = 2 ∷ 0 ∷ 0 ∷ matcher_numbers m
expect_numbers (ResultField name m) = (3 ∷ place_numbers name) ++ matcher_numbers m
expect_numbers (Error m) = 4 ∷ 0 ∷ 0 ∷ matcher_numbers m
expect_numbers (StderrCount m) = 5 ∷ 0 ∷ 0 ∷ matcher_numbers m
expect_numbers (Daemon m) = 6 ∷ 0 ∷ 0 ∷ matcher_numbers m
expect_numbers (Trust m) = 7 ∷ 0 ∷ 0 ∷ matcher_numbers m
expect_numbers (ServerFeatures m) = 8 ∷ 0 ∷ 0 ∷ matcher_numbers m

unfoldable pub expectation_numbers : Expectation → List ℕ
expectation_numbers x = x.line ∷ expect_numbers x.expect

-- ---- the answer, 20 numbers

unfoldable pub maybe_numbers : Option Place → List ℕ
maybe_numbers None = 0 ∷ 0 ∷ 0 ∷ []
maybe_numbers (Some p) = 1 ∷ place_numbers p

unfoldable pub maybe_items_numbers : Option Items → List ℕ
maybe_items_numbers None = 0 ∷ 0 ∷ 0 ∷ []
maybe_items_numbers (Some i) = 1 ∷ items_numbers i

unfoldable pub counts_numbers : Counts → List ℕ
counts_numbers c = c.entries ∷ c.items ∷ c.expectations ∷ c.store ∷ []

unfoldable pub script_numbers : Script → List ℕ
script_numbers s =
    let p = s.preamble in
    (0 ∷ p.protocol_version.major ∷ p.protocol_version.minor ∷ [])
    ++ items_numbers p.client_features
    ++ items_numbers p.expects
    ++ maybe_numbers p.daemon_version
    ++ maybe_numbers p.trust
    ++ maybe_items_numbers p.server_features
    ++ counts_numbers s.counts

unfoldable pub head_numbers : Parsed Script → List ℕ
head_numbers (Err r) = padded 20 (1 ∷ reason_number r.reason ∷ r.line ∷ [])
head_numbers (Ok s) = script_numbers s

-- Rows of numbers: a host hands over numbers and byte slices only, so an expectation, a response and the handshake's information come in rows. A row
-- that is too short has 0 for what is missing; a number that stands for no kind reads as the last one. Assumes nothing.
use Rattle.std.specs.Prelude.{ℕ, ◌%◌, Bool, not, List, get_or, eqb, ℤ, if◌then◌else◌, None, Option, Some}
use Rattle.version.specs.declared.ProtocolVersion.{ProtocolVersion}
use Rattle.script.specs.declared.records.Place.{Place}
use Rattle.script.specs.declared.records.Items.{Items}
use Rattle.script.specs.declared.records.Matcher.{Matcher}
use Rattle.script.specs.declared.records.Matcher.TheVariants.{Exact, Regex, GreaterThan, LessThan, GreaterOrEqual, LessOrEqual}
use Rattle.script.specs.declared.records.Expect.{Expect}
use Rattle.script.specs.declared.records.Expect.TheVariants.{Terminal, Result, ResultField, Error, StderrCount, Daemon, Trust, ServerFeatures}
use Rattle.script.specs.declared.response.PathInfoResult.{PathInfoResult}
use Rattle.script.specs.declared.response.ResultData.{ResultData}
use Rattle.script.specs.declared.response.DaemonResponse.{DaemonResponse}
use Rattle.script.specs.declared.response.HandshakeInfo.{HandshakeInfo}

-- ---- parts

-- the number at k
unfoldable pub at : (row : List ℕ) → (k : ℕ) → ℕ
at row k = get_or row k 0

-- a flag is on unless it is 0
unfoldable pub on : ℕ → Bool
on n = not (eqb n 0)

unfoldable pub place_of : (start len : ℕ) → Place
place_of start len = record { start = start; len = len }

unfoldable pub items_of : (first count : ℕ) → Items
items_of first count = record { first = first; count = count }

-- what may be missing has a flag in front
unfoldable pub maybe_of : (present start len : ℕ) → Option Place
maybe_of present start len = if eqb present 0 then None else Some (place_of start len)

unfoldable pub maybe_items_of : (present first count : ℕ) → Option Items
maybe_items_of present first count = if eqb present 0 then None else Some (items_of first count)

unfoldable pub maybe_number_of : (present n : ℕ) → Option ℕ
maybe_number_of present n = if eqb present 0 then None else Some n

-- ---- an expectation: its kind, a place (of the terminal name, or of a field's), its matcher's kind and place; a matcher's number comes apart, since it
-- has a sign. The kinds are numbered as in the dump of Read.

unfoldable pub matcher_of : (kind : ℕ) → Place → ℤ → Matcher
matcher_of kind p n =
    if eqb kind 1 then Exact p
    else if eqb kind 2 then Regex p
    else if eqb kind 3 then GreaterThan n
    else if eqb kind 4 then LessThan n
    else if eqb kind 5 then GreaterOrEqual n
    else LessOrEqual n

unfoldable pub expect_of : (kind : ℕ) → Place → Matcher → Expect
expect_of kind p m =
    if eqb kind 1 then Terminal p
    else if eqb kind 2 then Result m
    else if eqb kind 3 then ResultField p m
    else if eqb kind 4 then Error m
    else if eqb kind 5 then StderrCount m
    else if eqb kind 6 then Daemon m
    else if eqb kind 7 then Trust m
    else ServerFeatures m

unfoldable pub expect_row : (row : List ℕ) → ℤ → Expect
expect_row row n = expect_of (at row 0) (place_of (at row 1) (at row 2)) (matcher_of (at row 3) (place_of (at row 4) (at row 5)) n)

-- ---- a response: the terminal name's place, the count of messages, the error's flag and place, the result's kind, and from 7 on what that kind holds

unfoldable pub path_info_of : (row : List ℕ) → PathInfoResult
path_info_of row = record {
  valid = on (at row 7);
  deriver = maybe_of (at row 8) (at row 9) (at row 10);
  nar_hash = maybe_of (at row 11) (at row 12) (at row 13);
  references = maybe_items_of (at row 14) (at row 15) (at row 16);
  nar_size = maybe_number_of (at row 17) (at row 18);
}

unfoldable pub substitutable_of : (row : List ℕ) → ResultData
substitutable_of row = ResultData.SubstitutablePathInfo (on (at row 7)) (maybe_number_of (at row 8) (at row 9)) (maybe_number_of (at row 10) (at row 11))

unfoldable pub further_of : (kind : ℕ) → (row : List ℕ) → ResultData
further_of kind row =
    if eqb kind 5 then ResultData.StringMap
    else if eqb kind 6 then ResultData.None
    else if eqb kind 7 then ResultData.CollectGarbage (at row 7)
    else if eqb kind 8 then substitutable_of row
    else if eqb kind 9 then ResultData.Missing (at row 7) (at row 8)
    else if eqb kind 10 then ResultData.Framed
    else ResultData.Raw

unfoldable pub result_of : (kind : ℕ) → (row : List ℕ) → ResultData
result_of kind row =
    if eqb kind 0 then ResultData.Absent
    else if eqb kind 1 then ResultData.U64 (at row 7)
    else if eqb kind 2 then ResultData.Str (place_of (at row 7) (at row 8))
    else if eqb kind 3 then ResultData.PathInfo (path_info_of row)
    else if eqb kind 4 then ResultData.StringSet (items_of (at row 7) (at row 8))
    else further_of kind row

unfoldable pub response_row : (row : List ℕ) → DaemonResponse
response_row row = record {
  terminal = place_of (at row 0) (at row 1);
  stderr_count = at row 2;
  result = result_of (at row 6) row;
  error = maybe_of (at row 3) (at row 4) (at row 5);
}

-- ---- the handshake's information: three versions, two lists, the daemon's version with its flag, the trust with its flag

unfoldable pub version_of : (major minor : ℕ) → ProtocolVersion
version_of major minor = record { major = major % 0x1_0000; minor = minor % 0x100 }

unfoldable pub info_row : (row : List ℕ) → HandshakeInfo
info_row row = record {
  client_version = version_of (at row 0) (at row 1);
  server_version = version_of (at row 2) (at row 3);
  negotiated_version = version_of (at row 4) (at row 5);
  client_features = items_of (at row 6) (at row 7);
  server_features = items_of (at row 8) (at row 9);
  daemon_nix_version = maybe_of (at row 10) (at row 11) (at row 12);
  trust_status = maybe_number_of (at row 13) (at row 14);
}

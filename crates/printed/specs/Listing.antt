-- Document 01, "Listing a script": what the program `script-list` prints for a text. First: version, preamble expectations, entries, entry
-- expectations. Then per entry: line, operation code, expectations. A refusal prints only `refused N line L`. Assumes nothing.
use Rattle.std.specs.Prelude.{ℕ, ◌-◌, List, [], ◌∷◌, ◌++◌, Err, Ok}
use Prim.Native.String.{String}
use Rattle.text.specs.Base.{LF}
use Rattle.text.specs.Literal.{utf8}
use Rattle.wire.specs.Operations.{operation}
use Rattle.version.specs.declared.ProtocolVersion.{ProtocolVersion}
use Rattle.script.specs.Layout.{Reading}
use Rattle.script.specs.Reading.{read_into, Parsed}
use Rattle.script.specs.Refusals.{reason_number}
use Rattle.script.specs.declared.records.Entry.{Entry}
use Rattle.script.specs.declared.records.Counts.{Counts}
use Rattle.script.specs.declared.records.Script.{Script}
use Rattle.script.specs.declared.records.Refusal.{Refusal}
use Rattle.values.specs.Decimal.{decimal}
use Rattle.call_ops.specs.CallOps.{op_of}

-- Tables: 256 entries, 1,024 expectations, 1,024 items, store 32,768.
abbrev pub lent : Counts
lent = record { entries = 256; items = 1024; expectations = 1024; store = 32768 }

-- a number behind a word
unfoldable pub after : String → ℕ → List ℕ
after word n = utf8 word ++ decimal n

-- version MAJOR.MINOR
unfoldable pub version_words : ProtocolVersion → List ℕ
version_words v = after "version " v.major ++ after "." v.minor

-- The first line. The script counts the preamble's expectations with the others.
unfoldable pub header_line : Script → List ℕ
header_line s =
    let handshake = s.preamble.expects.count in
    version_words s.preamble.protocol_version
    ++ after " handshake " handshake
    ++ after " entries " s.counts.entries
    ++ after " expects " (s.counts.expectations - handshake)
    ++ (LF ∷ [])

-- an entry's line
unfoldable pub entry_line : Entry → List ℕ
entry_line e = decimal e.line ++ after " " (operation (op_of e.op_call)).code ++ after " " e.expects.count ++ (LF ∷ [])

unfoldable pub entry_lines : List Entry → List ℕ
entry_lines [] = []
entry_lines (e ∷ es) = entry_line e ++ entry_lines es

-- a refusal's line
unfoldable pub refusal_line : Refusal → List ℕ
refusal_line r = after "refused " (reason_number r.reason) ++ after " line " r.line ++ (LF ∷ [])

unfoldable pub listing : Parsed Reading → List ℕ
listing (Err r) = refusal_line r
listing (Ok r) = header_line r.script ++ entry_lines r.tables.entries

-- what is printed for a text
unfoldable pub listing_of : (text : List ℕ) → List ℕ
listing_of text = listing (read_into lent text)

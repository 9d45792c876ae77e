-- Worked examples of the dump's numbers, by computation. What is wanted was written by hand from the format. Assumes nothing.
use Rattle.std.specs.Prelude.{Err, None, Ok, Some}
use Prim.Native.Nat.{ℕ}
use mathlib.Core.Path.{◌≡◌, refl}
use mathlib.Core.Bool.{true, false}
use mathlib.Core.List.{[], ◌∷◌}
use lib.IntN.{pos, negsuc}
use Rattle.wire.specs.Operations.{operation}
use Rattle.wire.specs.declared.ops.Op.TheVariants.{the_data as Op}
use Rattle.script.specs.Refusals.{reason_number, refusal}
use Rattle.script.specs.declared.records.Place.{Place}
use Rattle.script.specs.declared.records.Items.{Items}
use Rattle.script.specs.declared.records.Matcher.{Matcher}
use Rattle.script.specs.declared.records.Expect.{Expect}
use Rattle.script.specs.declared.records.FramedData.{FramedData}
use Rattle.script.specs.declared.records.OpCall.{OpCall}
use Rattle.slots.specs.Blank.{blank_entry, blank_expectation}
use Rattle.call_fields.specs.CallFields.{flag, place_numbers, items_numbers, padded, data_numbers}
use Rattle.numbers.specs.Numbers.{low_bytes, bytes_of, unsigned, stamp_numbers, call_row, call_numbers, entry_head, entry_numbers, matcher_numbers, expect_numbers, expectation_numbers, maybe_numbers, maybe_items_numbers, counts_numbers, script_numbers, head_numbers}
use Rattle.script.specs.declared.refusals.Reason.TheVariants.{FewEntries}

abbrev at : ℕ → ℕ → Place
at start len = record { start = start; len = len }

abbrev range : ℕ → ℕ → Items
range first count = record { first = first; count = count }

-- bytes and integers: the lowest byte first; -1, and the least integer
pub numbers :
    (bytes_of 0x0102 ≡ 2 ∷ 1 ∷ 0 ∷ 0 ∷ 0 ∷ 0 ∷ 0 ∷ 0 ∷ [])
    × (bytes_of 0xFFFF_FFFF_FFFF_FFFE ≡ 0xFE ∷ 0xFF ∷ 0xFF ∷ 0xFF ∷ 0xFF ∷ 0xFF ∷ 0xFF ∷ 0xFF ∷ [])
    × (unsigned (negsuc 0) ≡ 0xFFFF_FFFF_FFFF_FFFF)
    × (unsigned (negsuc 0x7FFF_FFFF_FFFF_FFFF) ≡ 0x8000_0000_0000_0000)
    × (unsigned (pos 7) ≡ 7)
unfolding bytes_of low_bytes unsigned
numbers = (refl, refl, refl, refl, refl)

-- entries: a blank one; a path set with its flag, at -12.5 ms; data from a file
pub entries :
    (entry_numbers blank_entry ≡ 0 ∷ 0 ∷ 0 ∷ 0 ∷ 0 ∷ 0 ∷ 0 ∷ 6 ∷ 1 ∷ padded 14 [])
    × (entry_numbers (record { line = 7; timestamp_ms = Some (record { negative = true; digits = 125; decimals = pos 1 }); op_call = OpCall.PathSetFlag Op.QueryValidPaths (range 2 5) true; expects = range 3 1 })
    ≡ 7 ∷ 1 ∷ 1 ∷ 125 ∷ 1 ∷ 3 ∷ 1 ∷ 4 ∷ 31 ∷ 2 ∷ 5 ∷ 1 ∷ padded 11 [])
    × (call_numbers (OpCall.AddToStore (at 10 3) (at 20 4) (range 1 2) false (FramedData.FileRef (at 30 5))) ≡ 13 ∷ 0 ∷ 10 ∷ 3 ∷ 20 ∷ 4 ∷ 1 ∷ 2 ∷ 0 ∷ 1 ∷ 30 ∷ 5 ∷ 0 ∷ 0 ∷ 0 ∷ 0 ∷ [])
    × (call_numbers (OpCall.CollectGarbage 2 (range 6 1) 1 99) ≡ 8 ∷ 0 ∷ 2 ∷ 6 ∷ 1 ∷ 1 ∷ 99 ∷ padded 9 [])
unfolding entry_numbers entry_head call_row call_numbers stamp_numbers data_numbers place_numbers items_numbers flag unsigned padded operation
entries = (refl, refl, refl, refl)

-- expectations: a blank one; more than -5 lines; a field with its name
pub expectations :
    (expectation_numbers blank_expectation ≡ 0 ∷ 1 ∷ 0 ∷ 0 ∷ 0 ∷ 0 ∷ 0 ∷ [])
    × (expectation_numbers (record { line = 4; expect = Expect.StderrCount (Matcher.GreaterThan (negsuc 4)) }) ≡ 4 ∷ 5 ∷ 0 ∷ 0 ∷ 3 ∷ 0xFFFF_FFFF_FFFF_FFFB ∷ 0 ∷ [])
    × (expectation_numbers (record { line = 9; expect = Expect.ResultField (at 40 6) (Matcher.Regex (at 50 2)) }) ≡ 9 ∷ 3 ∷ 40 ∷ 6 ∷ 2 ∷ 50 ∷ 2 ∷ [])
unfolding expectation_numbers expect_numbers matcher_numbers place_numbers unsigned
expectations = (refl, refl, refl)

-- answers: a refusal; a script that says its daemon's version and its server's features
pub answers :
    (head_numbers (Err (refusal FewEntries 0)) ≡ 1 ∷ 21 ∷ 0 ∷ padded 17 [])
    × (head_numbers
    (Ok (record {
      preamble = record {
        protocol_version = record { major = 1; minor = 37 };
        client_features = range 0 2;
        expects = range 0 3;
        daemon_version = Some (at 60 7);
        trust = None;
        server_features = Some (range 2 1);
      };
      counts = record { entries = 6; items = 8; expectations = 4; store = 5 };
    }))
    ≡ 0 ∷ 1 ∷ 37 ∷ 0 ∷ 2 ∷ 0 ∷ 3 ∷ 1 ∷ 60 ∷ 7 ∷ 0 ∷ 0 ∷ 0 ∷ 1 ∷ 2 ∷ 1 ∷ 6 ∷ 8 ∷ 4 ∷ 5 ∷ [])
unfolding head_numbers reason_number script_numbers maybe_numbers maybe_items_numbers counts_numbers place_numbers items_numbers padded
answers = (refl, refl)

-- An entry as the code comes to it, at its opening line. Assumes nothing.
use Rattle.std.specs.Prelude.{ℕ, ◌+◌, Bool, true, false, List}
use Rattle.script.specs.Operations.{Shape, single_path, single_string, path_set, path_set_flag, path_set_mode, no_args, set_options, collect_garbage, verify_store, add_perm_root, add_signatures, add_text_to_store, add_to_store, add_multiple_to_store, add_build_log, register_drv_output, query_realisation, query_substitutable_path_info, query_substitutable_path_infos, raw_bytes}
use Rattle.script.specs.Values.{plain_rules}
use Rattle.script.specs.Contents.{EntryContents, entry_of, lead}
use Rattle.script.specs.Layout.{laid, listed}
use Rattle.script.specs.declared.records.Entry.{Entry}
use Rattle.below.specs.Below.{roles_at}
use Rattle.below.specs.declared.lines_below.Ahead.{Ahead}

-- only SetOptions takes an override list
unfoldable pub takes_pairs : Shape → Bool
takes_pairs single_path = false
takes_pairs single_string = false
takes_pairs path_set = false
takes_pairs path_set_flag = false
takes_pairs path_set_mode = false
takes_pairs no_args = false
takes_pairs set_options = true
takes_pairs collect_garbage = false
takes_pairs verify_store = false
takes_pairs add_perm_root = false
takes_pairs add_signatures = false
takes_pairs add_text_to_store = false
takes_pairs add_to_store = false
takes_pairs add_multiple_to_store = false
takes_pairs add_build_log = false
takes_pairs register_drv_output = false
takes_pairs query_realisation = false
takes_pairs query_substitutable_path_info = false
takes_pairs query_substitutable_path_infos = false
takes_pairs raw_bytes = false

-- the entry whose opening line is ahead
unfoldable pub entry_at : (text : List ℕ) → Ahead → EntryContents
entry_at text a = entry_of plain_rules text a.line a.opening (lead (roles_at text a.stands a.at (a.line + 1)))

-- its record, behind i items, x expectations and b bytes of the store
unfoldable pub laid_entry : (i x b : ℕ) → EntryContents → Entry
laid_entry i x b e = record { line = e.line; timestamp_ms = e.timestamp; op_call = (laid i b e.call).call; expects = listed x e.expects }

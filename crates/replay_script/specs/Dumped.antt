-- What a stored answer of the Rust to Read says, and whether Read does so. On a line, behind the word `read`: how many entries, items, expectations and
-- bytes of the store are lent; the text; what stands in the store once it is read; all numbers of the dump. Assumes nothing.
use Rattle.std.specs.Prelude.{ℕ, Bool, false, List, leb, length, get_or}
use Rattle.text.specs.Base.{◌&◌}
use Rattle.text.proofs.WordLaws.{words_at}
use Rattle.script.specs.declared.records.Counts.{Counts}
use Rattle.dump.specs.Dump.{read_dump}
use Rattle.fields.specs.Fields.{after, numbers_at, bytes_at}
use Rattle.replayed.specs.Dumps.{is_dump}

-- what is lent, by its four numbers
abbrev pub lent_by : (sizes : List ℕ) → Counts
lent_by n = record { entries = get_or n 0 0; items = get_or n 1 0; expectations = get_or n 2 0; store = get_or n 3 0 }

-- the dump of Read is the one that stands on the line; it has at most 8,192 bytes
unfoldable pub leaves : (line : List ℕ) → (at : ℕ) → (lent : Counts) → (text store : List ℕ) → Bool
leaves line at lent text store =
    let found = read_dump text lent.entries lent.items lent.expectations lent.store in
    leb (length found) 8192 & is_dump line (words_at line at) store found

-- the bytes of the store, at most 1,024, and the dump
unfoldable pub store_agreed : (line : List ℕ) → (at : ℕ) → (lent : Counts) → (text : List ℕ) → Bool
store_agreed line at lent text = after (bytes_at 1024 line at) false (λ store end. leaves line end lent text store)

-- the text, of at most 1,024 bytes, the store and the dump
unfoldable pub text_agreed : (line : List ℕ) → (at : ℕ) → (lent : Counts) → Bool
text_agreed line at lent = after (bytes_at 1024 line at) false (λ text end. store_agreed line end lent text)

-- what is lent, and the rest of the line
unfoldable pub agreed : (line : List ℕ) → (at : ℕ) → Bool
agreed line at = after (numbers_at 4 line at) false (λ sizes end. text_agreed line end (lent_by sizes))

-- Laws of the dump: how many bytes it has, and that it is written part by part. Assumes nothing.
use Prim.Native.Nat.{ℕ, ◌+◌, ◌*◌, ◌≤◌, ◌<◌}
use mathlib.Core.Path.{◌≡◌, refl, sym, ap, ◌∙◌}
use mathlib.Core.List.{List, [], ◌∷◌, ◌++◌, map, flat_map, append_assoc}
use native.Mathlib.Nat.{zero-add}
use native.Mathlib.Omega.{arith}
use lib.ListN.{length, length-append}
use borrow.Author.Tests.{le-leb, lt-leb}
use Rattle.text.specs.Base.{overlaid}
use Rattle.written.specs.Written.{written_at}
use Rattle.tables.specs.Items.{item_of}
use Rattle.written.specs.declared.Writer.{Writer}
use Rattle.written.specs.Writing.{Room, wrote}
use Rattle.written.proofs.WriterLaws.{room_front, room_behind, wrote_behind, flat_append}
use Rattle.script.specs.Reading.{read_into, Parsed}
use Rattle.script.specs.Layout.{Reading}
use Rattle.read.specs.Read.{lent_of, script_or, tables_or}
use Rattle.script.specs.declared.records.Entry.{Entry}
use Rattle.script.specs.declared.records.Expectation.{Expectation}
use Rattle.script.specs.declared.records.Script.{Script}
use Rattle.numbers.specs.Numbers.{bytes_of, low_bytes, in_bytes, head_numbers, call_numbers, entry_head, entry_numbers, item_numbers, expectation_numbers}
use Rattle.dump.specs.Dump.{entry_bytes, item_bytes, expectation_bytes, dump_of, dump_read, dump_into}
use Rattle.numbers.proofs.NumberLaws.{head_count, entry_count, expectation_count}

-- ---- sizes

pub bytes-size : (ns : List ℕ) → length (in_bytes ns) ≡ 8 * length ns
unfolding flat_map bytes_of low_bytes
bytes-size [] = refl
bytes-size (n ∷ ns) = let h = bytes-size ns in omega arith

pub flat_size : {A : Type 0} (f : A → List ℕ) (k : ℕ) → ((x : A) → length (f x) ≡ k) → (xs : List A) → length (flat_map f xs) ≡ k * length xs
unfolding flat_map
flat_size f k h [] = omega arith
flat_size f k h (x ∷ xs) = length-append (f x) (flat_map f xs) ∙ rw (h x, flat_size f k h xs) (omega arith)

-- ---- an entry: its head, and behind it its call

module _ (e : Entry) (hs ks : List ℕ) (p : hs ≡ entry_head e) (q : ks ≡ call_numbers e.op_call) (w : Writer ℕ) (h : Room (length (entry_bytes e)) w) where
  entry_parts : entry_bytes e ≡ in_bytes hs ++ in_bytes ks
  unfolding entry_numbers
  entry_parts = rw (p, q) (flat_append bytes_of (entry_head e) (call_numbers e.op_call))

  pub head_fits : Room (length (in_bytes hs)) w
  head_fits = room_front (in_bytes hs) (in_bytes ks) (entry_bytes e) w entry_parts h

  module _ (v : Writer ℕ) (r : v ≡ wrote (in_bytes hs) w) where
    pub call_fits : Room (length (in_bytes ks)) v
    call_fits = room_behind (in_bytes hs) w v r (in_bytes ks) (entry_bytes e) entry_parts h

    pub entry_put : (u : Writer ℕ) → u ≡ wrote (in_bytes ks) v → u ≡ wrote (entry_bytes e) w
    entry_put = wrote_behind (in_bytes hs) w v r (in_bytes ks) (entry_bytes e) entry_parts h

-- ---- sizes of the records

-- the numbers of an answer
pub head_size : (p : Parsed Script) → length (in_bytes (head_numbers p)) ≡ 160
head_size p = bytes-size (head_numbers p) ∙ ap (λ (n : ℕ). 8 * n) (head_count p)

pub entry_size : (e : Entry) → length (entry_bytes e) ≡ 184
entry_size e = bytes-size (entry_numbers e) ∙ ap (λ (n : ℕ). 8 * n) (entry_count e)

pub item_size : (item : List ℕ) → length (item_bytes item) ≡ 16
unfolding item_numbers
item_size item = bytes-size (item_numbers item)

pub expectation-size : (x : Expectation) → length (expectation_bytes x) ≡ 56
expectation-size x = bytes-size (expectation_numbers x) ∙ ap (λ (n : ℕ). 8 * n) (expectation_count x)

pub dump_size : (a : Parsed Script) (es : List Entry) (is : List (List ℕ)) (xs : List Expectation) (bs : List ℕ)
    → length (dump_of a es is xs bs) ≡ 160 + 184 * length es + 16 * length is + 56 * length xs + length bs
unfolding dump_of
dump_size a es is xs bs =
    let h = in_bytes (head_numbers a) in
    let e = flat_map entry_bytes es in
    let i = flat_map item_bytes is in
    let x = flat_map expectation_bytes xs in
    omega (
      arith,
      length-append (h ++ e ++ i ++ x) bs,
      length-append (h ++ e ++ i) x,
      length-append (h ++ e) i,
      length-append h e,
      head_size a,
      flat_size entry_bytes 184 entry_size es,
      flat_size item_bytes 16 item_size is,
      flat_size expectation_bytes 56 expectation-size xs,
    )

-- there is no room
pub left_alone : (first xs : List ℕ) → length first < length xs → first ≡ overlaid xs first
unfolding overlaid
left_alone first xs h = rw (lt-leb (length xs) (length first) h)

-- ---- the dump of what was read

module _ (text : List ℕ) (es₀ : List Entry) (is₀ : List (List ℕ)) (xs₀ : List Expectation) (bs₀ : List ℕ) where
  abbrev R : Parsed Reading
  R = read_into (lent_of es₀ is₀ xs₀ bs₀) text

  module _ (a : Parsed Script) (es : List Entry) (is : List (List ℕ)) (xs : List Expectation) (bs : List ℕ)
      (f : a ≡ script_or R) (g : es ≡ written_at 0 (tables_or R).entries es₀) (h : is ≡ written_at 0 (map item_of (tables_or R).items) is₀) (i : xs ≡ written_at 0 (tables_or R).expectations xs₀) (j : bs ≡ written_at 0 (tables_or R).store bs₀)
    where
      pub is_dump : dump_of a es is xs bs ≡ dump_into text es₀ is₀ xs₀ bs₀
      unfolding dump_into dump_read
      is_dump = rw (f, g, h, i, j)

      module _ (size : ℕ) (z : size ≡ 160 + 184 * length es + 16 * length is + 56 * length xs + length bs) where
        pub size_is : size ≡ length (dump_into text es₀ is₀ xs₀ bs₀)
        size_is = z ∙ sym (dump_size a es is xs bs) ∙ ap length is_dump

        pub no_room : (out : List ℕ) → length out < size → out ≡ overlaid (dump_into text es₀ is₀ xs₀ bs₀) out
        no_room out k = left_alone out (dump_into text es₀ is₀ xs₀ bs₀) (omega (arith, size_is))

        -- there is room
        pub dump_room : (m : ℕ) → size ≤ m → length (dump_of a es is xs bs) ≤ m
        dump_room m k = omega (arith, z, dump_size a es is xs bs)

-- ---- the answer and the tables, one behind the other

module _ (a : Parsed Script) (es : List Entry) (is : List (List ℕ)) (xs : List Expectation) (bs : List ℕ) where
  -- the first two, three and four of them
  abbrev two : List ℕ
  two = in_bytes (head_numbers a) ++ flat_map entry_bytes es

  abbrev three : List ℕ
  three = two ++ flat_map item_bytes is

  abbrev four : List ℕ
  four = three ++ flat_map expectation_bytes xs

  module _ (w : Writer ℕ) (room : Room (length (dump_of a es is xs bs)) w) where
    four_fit : Room (length four) w
    unfolding dump_of
    four_fit = room_front four bs (dump_of a es is xs bs) w refl room

    three_fit : Room (length three) w
    three_fit = room_front three (flat_map expectation_bytes xs) four w refl four_fit

    two_fit : Room (length two) w
    two_fit = room_front two (flat_map item_bytes is) three w refl three_fit

    pub head_room : Room (length (in_bytes (head_numbers a))) w
    head_room = room_front (in_bytes (head_numbers a)) (flat_map entry_bytes es) two w refl two_fit

    module _ (u : Writer ℕ) (p : u ≡ wrote (in_bytes (head_numbers a)) w) where
      pub entries_room : Room (length (flat_map entry_bytes es)) u
      entries_room = room_behind _ w u p (flat_map entry_bytes es) two refl two_fit

      module _ (v : Writer ℕ) (q : v ≡ wrote (flat_map entry_bytes es) u) where
        so₂ : v ≡ wrote two w
        so₂ = wrote_behind _ w u p (flat_map entry_bytes es) two refl two_fit v q

        pub items_room : Room (length (flat_map item_bytes is)) v
        items_room = room_behind two w v so₂ (flat_map item_bytes is) three refl three_fit

        module _ (x : Writer ℕ) (r : x ≡ wrote (flat_map item_bytes is) v) where
          so₃ : x ≡ wrote three w
          so₃ = wrote_behind two w v so₂ (flat_map item_bytes is) three refl three_fit x r

          pub expectations_room : Room (length (flat_map expectation_bytes xs)) x
          expectations_room = room_behind three w x so₃ (flat_map expectation_bytes xs) four refl four_fit

          module _ (y : Writer ℕ) (s : y ≡ wrote (flat_map expectation_bytes xs) x) where
            so₄ : y ≡ wrote four w
            so₄ = wrote_behind three w x so₃ (flat_map expectation_bytes xs) four refl four_fit y s

            pub store_room : Room (length bs) y
            unfolding dump_of
            store_room = room_behind four w y so₄ bs (dump_of a es is xs bs) refl room

            pub dump_wrote : (z : Writer ℕ) → z ≡ wrote bs y → z ≡ wrote (dump_of a es is xs bs) w
            unfolding dump_of
            dump_wrote = wrote_behind four w y so₄ bs (dump_of a es is xs bs) refl room

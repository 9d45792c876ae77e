-- Laws of what is written of an entry and of the preamble: what the code's answers come to. For `search` to use. Assumes nothing.
use Rattle.std.specs.Prelude.{None, Option, Some, option_map}
use Prim.Native.Nat.{ℕ, ◌+◌}
use mathlib.Core.Path.{◌≡◌, refl, sym, ap, ◌∙◌}
use mathlib.Core.List.{List, [], ◌∷◌, ◌++◌, append-nil}
use native.Mathlib.Omega.{arith}
use lib.ListN.{length, length-map}
use Rattle.text.specs.declared.parts.Span.{Span}
use Rattle.script.specs.Operations.{add_text_to_store, add_to_store}
use Rattle.script.specs.Pieces.{place}
use Rattle.script.specs.Values.{plain_rules}
use Rattle.script.specs.Contents.{set_of, features_in, or_none, unquoted_of}
use Rattle.script.specs.declared.roles.Key.{Key}
use Rattle.written.specs.declared.Writer.{Writer}
use Rattle.written.specs.Writing.{Room, wrote}
use Rattle.tables.specs.Items.{item_of, items_for, items_of, features_of}
use Rattle.written.proofs.WriterLaws.{none_wrote, wrote_as, wrote_at, room_front, room_behind, wrote_behind, front_room, body_room, back_room, wrapped}
use Rattle.pieces.specs.declared.pieces.Piece.{Piece}
use Rattle.stored.specs.Closing.{stored, first_stored, second_stored, third_stored, front_of}

-- ---- items: as many as their pieces

pub items-length : (ps : List Span) → length (items_for ps) ≡ length ps
unfolding items_for
items-length ps = simp length-map

pub items-append : (ps qs : List Span) → items_for (ps ++ qs) ≡ items_for ps ++ items_for qs
unfolding items_for
items-append [] qs = refl
items-append (p ∷ ps) qs = ap (λ (xs : List (List ℕ)). item_of (place p) ∷ xs) (items-append ps qs)

-- ---- a path set: v is the piece where it stands, ps its items

module _ (text : List ℕ) (ps : List Span) (p : Option Piece) (e : set_of text (option_map (λ v. v.at) p) ≡ ps) (w : Writer (List ℕ)) where
  no_items : p ≡ None → items_for ps ≡ []
  unfolding set_of items_for
  no_items h = rw (← e, h)

  pub set_absent : p ≡ None → w ≡ wrote (items_for ps) w
  set_absent h = none_wrote (items_for ps) w (no_items h)

  module _ (v : Piece) (h : p ≡ Some v) (t : v.text.now ≡ text) where
    same_items : items_of v.text.now v.at ≡ items_for ps
    unfolding set_of items_of
    same_items = rw (t, ← e, h)

    pub set_room : Room (length ps) w → Room (length (items_of v.text.now v.at)) w
    set_room r = omega (arith, ap length same_items, items-length ps)

    pub set_wrote : (u : Writer (List ℕ)) → u ≡ wrote (items_of v.text.now v.at) w → u ≡ wrote (items_for ps) w
    set_wrote = wrote_as _ _ same_items w

-- ---- a feature set: p is the answer of `Said::value`, and o what was said

module _ (text : List ℕ) (o : Option Span) (p : Option Piece) (e : option_map (λ v. v.at) p ≡ o) (w : Writer (List ℕ)) where
  no_features : p ≡ None → items_for (or_none (features_in text o)) ≡ []
  unfolding features_in or_none items_for
  no_features h = rw (← e, h)

  pub features_absent : p ≡ None → w ≡ wrote (items_for (or_none (features_in text o))) w
  features_absent h = none_wrote (items_for (or_none (features_in text o))) w (no_features h)

  module _ (v : Piece) (h : p ≡ Some v) (t : v.text.now ≡ text) where
    same_features : features_of v.text.now v.at ≡ items_for (or_none (features_in text o))
    unfolding features_in or_none features_of
    same_features = rw (t, ← e, h)

    pub features_room : Room (length (or_none (features_in text o))) w → Room (length (features_of v.text.now v.at)) w
    features_room r = omega (arith, ap length same_features, items-length (or_none (features_in text o)))

    pub features_wrote : (u : Writer (List ℕ)) → u ≡ wrote (features_of v.text.now v.at) w → u ≡ wrote (items_for (or_none (features_in text o))) w
    features_wrote = wrote_as _ _ same_features w

-- ---- the values of AddTextToStore and of AddToStore, one behind the other

module _ (text : List ℕ) (value : Key → Option Span) (w : Writer ℕ) where
  abbrev suffix : List ℕ
  suffix = unquoted_of plain_rules text (value Key.Suffix)

  abbrev body : List ℕ
  body = unquoted_of plain_rules text (value Key.Text)

  texts_are : stored text value add_text_to_store ≡ suffix ++ body
  unfolding stored first_stored second_stored third_stored
  texts_are = append-nil (suffix ++ body)

  module _ (room : Room (length (stored text value add_text_to_store)) w) where
    pub suffix_room : Room (length suffix) w
    suffix_room = room_front suffix body _ w texts_are room

    module _ (v : Writer ℕ) (p : v ≡ wrote suffix w) where
      pub body_fits : Room (length body) v
      body_fits = room_behind suffix w v p body _ texts_are room

      pub texts_wrote : (u : Writer ℕ) → u ≡ wrote body v → u ≡ wrote (stored text value add_text_to_store) w
      texts_wrote = wrote_behind suffix w v p body _ texts_are room

  abbrev name : List ℕ
  name = first_stored text value add_to_store

  abbrev cam_str : List ℕ
  cam_str = second_stored text value add_to_store

  abbrev contents : List ℕ
  contents = third_stored text value add_to_store

  all_are : stored text value add_to_store ≡ name ++ cam_str ++ contents
  unfolding stored
  all_are = refl

  module _ (room : Room (length (stored text value add_to_store)) w) where
    pub name_room : Room (length name) w
    name_room = front_room name cam_str contents _ all_are w room

    module _ (v : Writer ℕ) (p : v ≡ wrote name w) where
      pub cam_str_room : Room (length cam_str) v
      cam_str_room = body_room name cam_str contents _ all_are w room v p

      module _ (u : Writer ℕ) (q : u ≡ wrote cam_str v) where
        pub contents_room : Room (length contents) u
        contents_room = back_room name cam_str contents _ all_are w room v p u q

        pub all_wrote : (z : Writer ℕ) → z ≡ wrote contents u → z ≡ wrote (stored text value add_to_store) w
        all_wrote = wrapped name cam_str contents _ all_are w room v p u q

-- one value, and no second or third
pub alone : {A : Type 0} (xs : List A) → xs ≡ xs ++ [] ++ []
alone xs = sym (append-nil (xs ++ []) ∙ append-nil xs)

-- ---- the preamble: the features of the client, then those of the server

module _ (text : List ℕ) (value : Key → Option Span) (w : Writer (List ℕ)) (room : Room (length (front_of text value)) w) where
  abbrev client : List Span
  client = or_none (features_in text (value Key.Features))

  abbrev server : List Span
  server = or_none (features_in text (value Key.ServerFeatures))

  both_are : items_for (front_of text value) ≡ items_for client ++ items_for server
  unfolding front_of
  both_are = items-append client server

  both_fit : Room (length (items_for (front_of text value))) w
  both_fit = omega (arith, room, items-length (front_of text value))

  pub client_room : Room (length client) w
  client_room = omega (arith, items-length client, room_front (items_for client) (items_for server) _ w both_are both_fit)

  module _ (v : Writer (List ℕ)) (p : v ≡ wrote (items_for client) w) where
    pub server_room : Room (length server) v
    server_room = omega (arith, items-length server, room_behind (items_for client) w v p (items_for server) _ both_are both_fit)

    pub front_wrote : (u : Writer (List ℕ)) → u ≡ wrote (items_for server) v → u ≡ wrote (items_for (front_of text value)) w
    front_wrote = wrote_behind (items_for client) w v p (items_for server) _ both_are both_fit

-- so many items more are so far
pub items_far : (ps : List Span) (w v : Writer (List ℕ)) → v ≡ wrote (items_for ps) w → v.at ≡ w.at + length ps
items_far ps w v p = wrote_at (items_for ps) w v p ∙ ap (λ (n : ℕ). w.at + n) (items-length ps)

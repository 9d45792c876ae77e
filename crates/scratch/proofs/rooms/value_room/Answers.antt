-- `scratch::rooms::value_room` meets its contract. Assumes nothing.
use Prim.Native.Nat.{ℕ}
use mathlib.Core.Path.{sym, ap, ◌∙◌}
use mathlib.Core.List.{List}
use lib.ListN.{length}
use Rattle.text.specs.Literal.{utf8}
use Rattle.text.specs.Unicode.{encoded}
use Rattle.verdicts.specs.Held.{texts_in}
use Rattle.verdicts.specs.Lookup.{joined}
use Rattle.writing.specs.Room.{left, less_by}
use Rattle.writing.proofs.RoomLaws.{left-none}
use Rattle.lists.specs.Lists.{item_texts}
use Rattle.sought.specs.Values.{value_bytes, value_text}
use Rattle.sought.specs.declared.value.Value.{Value}
use Rattle.lists.proofs.JoinedLaws.{bracketed-room, braced-room}
use Rattle.scratch.proofs.rooms.value_room.Goals as goal

pub returns-in-Missing : goal.returns-in-Missing
unfolding value_text value_bytes less_by
returns-in-Missing c =
    let A = c.args in
    sym (left-none A.room)
    ∙ ap (λ (x : Value). left A.room (length (value_text A.held.bytes.now A.held.lists.now x))) (sym c.in-Missing.is)

pub returns-in-Number : goal.returns-in-Number
unfolding value_text value_bytes less_by
returns-in-Number c =
    let A = c.args in
    c.less.ensures ∙ ap (left A.room) c.decimal_len.ensures.value
    ∙ ap (λ (x : Value). left A.room (length (value_text A.held.bytes.now A.held.lists.now x))) (sym c.in-Number.is)

pub returns-in-Text : goal.returns-in-Text
unfolding value_text value_bytes less_by
returns-in-Text c =
    let A = c.args in
    c.less-in-Text.ensures ∙ ap (λ (xs : List ℕ). left A.room (length xs)) c.text_at.ensures
    ∙ ap (λ (x : Value). left A.room (length (value_text A.held.bytes.now A.held.lists.now x))) (sym c.in-Text.is)

pub returns-in-Unknown : goal.returns-in-Unknown
unfolding value_text value_bytes less_by utf8 encoded
returns-in-Unknown c =
    let A = c.args in
    c.less-in-Unknown.ensures
    ∙ ap (λ (x : Value). left A.room (length (value_text A.held.bytes.now A.held.lists.now x))) (sym c.in-Unknown.is)

pub returns-in-Trusted : goal.returns-in-Trusted
unfolding value_text value_bytes less_by utf8 encoded
returns-in-Trusted c =
    let A = c.args in
    c.less-in-Trusted.ensures
    ∙ ap (λ (x : Value). left A.room (length (value_text A.held.bytes.now A.held.lists.now x))) (sym c.in-Trusted.is)

pub returns-in-NotTrusted : goal.returns-in-NotTrusted
unfolding value_text value_bytes less_by utf8 encoded
returns-in-NotTrusted c =
    let A = c.args in
    c.less-in-NotTrusted.ensures
    ∙ ap (λ (x : Value). left A.room (length (value_text A.held.bytes.now A.held.lists.now x))) (sym c.in-NotTrusted.is)

pub returns-in-List : goal.returns-in-List
unfolding value_text value_bytes less_by texts_in
returns-in-List c =
    let A = c.args in
    bracketed-room A.room c.less-in-List.result c.joined_room.result _ (c.joined_room.ensures ∙ ap (λ (l : List (List ℕ)). less_by c.less-in-List.result (length (joined (item_texts A.held.bytes.now l)))) c.items_at.ensures) c.less-in-List.ensures
    ∙ ap (λ (x : Value). left A.room (length (value_text A.held.bytes.now A.held.lists.now x))) (sym c.in-List.is)

pub returns-in-Features : goal.returns-in-Features
unfolding value_text value_bytes less_by texts_in
returns-in-Features c =
    let A = c.args in
    braced-room A.room c.less-in-Features.result c.joined_room-in-Features.result _ (c.joined_room-in-Features.ensures ∙ ap (λ (l : List (List ℕ)). less_by c.less-in-Features.result (length (joined (item_texts A.held.bytes.now l)))) c.items_at-in-Features.ensures) c.less-in-Features.ensures
    ∙ ap (λ (x : Value). left A.room (length (value_text A.held.bytes.now A.held.lists.now x))) (sym c.in-Features.is)

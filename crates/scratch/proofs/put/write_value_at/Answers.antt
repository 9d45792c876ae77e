-- `scratch::put::write_value_at` meets its contract: each arm is its case of the definition. Assumes nothing.
use mathlib.Core.Path.{sym, ap, ◌∙◌}
use mathlib.Core.List.{List}
use Prim.Native.Nat.{ℕ}
use Rattle.text.specs.Literal.{utf8}
use Rattle.text.specs.Unicode.{encoded}
use Rattle.verdicts.specs.Held.{texts_in}
use Rattle.verdicts.specs.Lookup.{bracketed, braced}
use Rattle.written.proofs.WriterLaws.{room_as, wrote_as}
use Rattle.lists.specs.Lists.{item_texts}
use Rattle.sought.specs.Values.{value_bytes, value_text}
use Rattle.scratch.proofs.put.write_value_at.Goals as goal

pub put_bracketed-requires : goal.put_bracketed-requires
unfolding value_text value_bytes texts_in
put_bracketed-requires c =
    let A = c.args in
    room_as _ _ (ap (λ (l : List (List ℕ)). bracketed (item_texts A.held.bytes.now l)) c.items_at.ensures ∙ sym (ap (value_text A.held.bytes.now A.held.lists.now) c.in-List.is)) A.w.now c.requires

pub put_braced-requires : goal.put_braced-requires
unfolding value_text value_bytes texts_in
put_braced-requires c =
    let A = c.args in
    room_as _ _ (ap (λ (l : List (List ℕ)). braced (item_texts A.held.bytes.now l)) c.items_at-in-Features.ensures ∙ sym (ap (value_text A.held.bytes.now A.held.lists.now) c.in-Features.is)) A.w.now c.requires

pub returns-in-NotTrusted : goal.returns-in-NotTrusted
unfolding value_text value_bytes utf8 encoded
returns-in-NotTrusted c = let A = c.args in wrote_as _ _ (sym (ap (value_text A.held.bytes.now A.held.lists.now) c.in-NotTrusted.is)) _ _ c.put-in-NotTrusted.ensures

pub returns-in-List : goal.returns-in-List
unfolding value_text value_bytes texts_in
returns-in-List c =
    let A = c.args in
    wrote_as _ _ (ap (λ (l : List (List ℕ)). bracketed (item_texts A.held.bytes.now l)) c.items_at.ensures ∙ sym (ap (value_text A.held.bytes.now A.held.lists.now) c.in-List.is)) _ _ c.put_bracketed.ensures

pub returns-in-Features : goal.returns-in-Features
unfolding value_text value_bytes texts_in
returns-in-Features c =
    let A = c.args in
    wrote_as _ _ (ap (λ (l : List (List ℕ)). braced (item_texts A.held.bytes.now l)) c.items_at-in-Features.ensures ∙ sym (ap (value_text A.held.bytes.now A.held.lists.now) c.in-Features.is)) _ _ c.put_braced.ensures

use Rattle.std.proofs.Common.{◌≡◌, ℕ, sym, ap, ◌∙◌, List, Option, None, String, Global, string_bytes, is_some, false, cond, ◌++◌, ◌∷◌, []}
use Rattle.std.specs.List.{list_any}
use Rattle.std.specs.Str.{bytes_eq}
use Rattle.batch.specs.Names.{texts_of}
use Rattle.doc_tree.specs.Scope.{fit, is_listed}
use Rattle.doc_tree.proofs.TableLemmas.{is_listed-keys, length-texts_of, listed_text, new_text, place_of-keys, unlisted_text}
use Rattle.doc_tree.proofs.state.number_of.Goals as goal

pub returns-in-Some-clause-number : goal.returns-in-Some-clause-number
returns-in-Some-clause-number c =
    let listed = listed_text c.args.text.now (texts_of c.args.table.now.keys) c.in-Some.number
    (place_of-keys c.args.text.now c.args.table.now.keys ∙ sym c.in-Some.ensures.index) in
    c.fit.ensures ∙ ap fit listed.0

pub returns-in-Some-clause-table : goal.returns-in-Some-clause-table
returns-in-Some-clause-table c =
    let table = texts_of c.args.table.now.keys in
    let listed = listed_text c.args.text.now table c.in-Some.number (place_of-keys c.args.text.now c.args.table.now.keys
    ∙ sym c.in-Some.ensures.index) in
    ap (λ b. cond b table (table ++ c.args.text.now ∷ [])) (sym listed.1)

-- where no place is found, the text is not listed
not_listed : (text : List ℕ) (keys : List (String Global)) (r : Option ℕ) → r ≡ None
    → is_some r ≡ list_any (λ k. bytes_eq text (string_bytes k)) keys → is_listed text (texts_of keys) ≡ false
not_listed text keys r none found = is_listed-keys text keys ∙ sym found ∙ ap is_some none

pub returns-clause-number : goal.returns-clause-number
returns-clause-number c =
    let keys = c.args.table.now.keys in
    let unlisted = unlisted_text c.args.text.now (texts_of keys)
    (not_listed c.args.text.now keys c.get_index_of.result c.in_default.is c.get_index_of.ensures.found) in
    c.fit-2.ensures ∙ ap fit (c.len-number.ensures.len ∙ sym (length-texts_of keys) ∙ sym unlisted)

pub returns-clause-table : goal.returns-clause-table
returns-clause-table c =
    let keys = c.args.table.now.keys in
    let table = texts_of keys in
    let text = c.args.text.now in
    let new = not_listed text keys c.get_index_of.result c.in_default.is c.get_index_of.ensures.found in
    ap texts_of c.in_ok-insert.ensures.keys ∙ new_text text keys c.in_ok-from_str.field-0 c.in_ok-from_str.ensures.ok new
    ∙ ap (λ b. cond b table (table ++ text ∷ [])) (sym new)

use Rattle.std.proofs.Common.{◌≡◌, None, Some, [], ◌∷◌, ◌++◌, get_or, length, map, ap, sym, subst, ◌∙◌, rules, arith}
use Rattle.std.proofs.lemmas.List.{map-append}
use Rattle.std.specs.Prelude.{string_bytes}
use Rattle.batch.specs.Names.{texts_of}
use Rattle.doc_tree.specs.Scope.{fit}
use Rattle.doc_tree.proofs.TableLemmas.{length-texts_of}
use Rattle.doc_merge.specs.Tables.{IsNext}
use Rattle.doc_merge.proofs.Merging.{Merging, merging_all, none_left}
use Rattle.doc_merge.proofs.OwnNumbers.{keys_apart}
use Rattle.doc_merge.proofs.PartLemmas.{next_is}
use Rattle.doc_merge.proofs.Together.{places_size, put_known, put_new}
use Rattle.doc_merge.proofs.tables.put_texts.Goals.{in-Some-at, in-None-at+in_ok-push-in-None-at}
use Rattle.doc_merge.proofs.tables.put_texts.Goals as goal

pub loop-text-preserved : goal.loop-text-preserved
loop-text-preserved c =
    let l = c.loop-text in
    let text = string_bytes c.in-Some.text in
    let left = c.next.new.self.rest.items in
    let rest : l.text-iterator.rest.items ≡ c.in-Some.text ∷ left = search rules in
    let first = texts_of c.args.all.now.items in
    let all = texts_of c.args.texts.keys in
    let numbers = map (λ one. one.items) c.args.numbers.now in
    let o = c.next-in-loop-text in
    let others = o.new.self.rest.items in
    let m = subst (λ ts. Merging first all (texts_of l.all.items) l.own.items (texts_of ts)) rest l.invariant.0 in
    let next = subst (λ ts. IsNext first numbers (texts_of ts) l.places.rest.items) rest l.invariant.1 in
    let size = places_size next.0 (text ∷ texts_of left) l.places.rest.items next.3 in
    let places = next_is o.result None l.places.rest.items others (o.ensures.variant.1 (omega (arith, size, l.places.rest.ok.0)))
    o.ensures.items in
    let here = subst (IsNext first numbers (text ∷ texts_of left)) (places ∙ ap (λ a. a ∷ others) (sym c.unwrap_or-at.ensures)) next in
    let pushed : c.push-in-loop-text.new.self.items ≡ l.own.items ++ c.match-at.number ∷ [] = search rules in
    elim c.match-at.branch [
      | in-Some-at w ↦
          (let at : c.unwrap_or-at.result ≡ Some w.in-Some-at.at = search rules in
          let same : c.match-at.all.items ≡ l.all.items = search rules in
          let number : c.match-at.number ≡ get_or (get_or numbers w.in-Some-at.at.table []) w.in-Some-at.at.place 0 = search rules in
          let put = put_known first all (texts_of l.all.items) l.own.items text (texts_of left) numbers others c.match-at.number m
          w.in-Some-at.at (subst (λ a. IsNext first numbers (text ∷ texts_of left) (a ∷ others)) at here) number in (
            subst (λ ns. Merging first all (texts_of c.match-at.all.items) ns (texts_of left)) (sym pushed)
                (subst (λ xs. Merging first all (texts_of xs) (l.own.items ++ c.match-at.number ∷ []) (texts_of left)) (sym same) put.0),
            put.1,
          ))
      | in-None-at+in_ok-push-in-None-at w ↦
          (let at : c.unwrap_or-at.result ≡ None = search rules in
          let same : c.match-at.all.items ≡ l.all.items ++ c.in-Some.text ∷ [] = search rules in
          let counted : w.len-in-None-at.result ≡ length (texts_of l.all.items) =
          omega (arith, w.len-in-None-at.ensures, l.all.ok.0, length-texts_of l.all.items) in
          let fitted : c.match-at.number ≡ fit w.len-in-None-at.result = search rules in
          let put = put_new first all (texts_of l.all.items) l.own.items text (texts_of left) numbers others c.match-at.number m
          (keys_apart c.args.texts.keys c.len.ensures.unique)
          (subst (λ a. IsNext first numbers (text ∷ texts_of left) (a ∷ others)) at here) (fitted ∙ ap fit counted) in
          let table : texts_of c.match-at.all.items ≡ texts_of l.all.items ++ text ∷ [] =
          ap texts_of same ∙ map-append string_bytes l.all.items (c.in-Some.text ∷ []) in (
            subst (λ ns. Merging first all (texts_of c.match-at.all.items) ns (texts_of left)) (sym pushed)
                (subst (λ t. Merging first all t (l.own.items ++ c.match-at.number ∷ []) (texts_of left)) (sym table) put.0),
            put.1,
          ))
    ]

pub returns-clause-numbers : goal.returns-clause-numbers
returns-clause-numbers c =
    let l = c.loop-text in
    let none = none_left l.text-iterator.rest.items (omega (arith, l.text-iterator.rest.ok.0, c.in-None.ensures.steps.0)) in
    (merging_all (texts_of c.args.all.now.items) (texts_of c.args.texts.keys) (texts_of l.all.items) l.own.items
    (subst (Merging _ _ _ _) (ap texts_of none) l.invariant.0)).1

use Rattle.std.proofs.Common.{◌≡◌, ◌<◌, List, [], ◌∷◌, ◌++◌, Some, None, inr, length, refl, sym, subst, ap, ap₂, ◌∙◌, ◌-◌, suc}
use Rattle.std.proofs.Common.{string_bytes, string_cmp, arith, rules}
use Rattle.std.specs.BTreeMap.{insert_entry}
use Rattle.json.specs.Token.{Token}
use Rattle.json.specs.Json.{after_end_array, items, members, parse_map, read_key, value}
use Rattle.json.specs.Reads.{token_of}
use Rattle.json.proofs.Grammar.{read_key-shorter, value_is}
use Rattle.serde_json.specs.Data.{Items, array, object, no_members, boolean, item, no_items, null, number, put, string}
use Rattle.serde_json.specs.Read.{converted, of_items, of_json, of_members}
use Rattle.serde_json.specs.View.{items_view, members_view, view}
use Rattle.serde_json.specs.declared.value.Value.{Value, String, Bool, Null, the_lemmas}
use Rattle.serde_json.proofs.Views.{view-Array, view-Object, members_view-insert_entry}
use Rattle.doc_tree.proofs.Checks.{passed_on}
use Rattle.doc_tokens.specs.Pulled.{ReadsItems, ReadsMembers, ReadsValue, StopsFor}
use Rattle.doc_tokens.proofs.PassLemmas.{array_opened, each_stop, item_behind, item_read, item_refused, key_refused, member_read}
use Rattle.doc_tokens.proofs.PassLemmas.{member_refused, none_before, object_opened, stops_on, stray}
use Rattle.doc_tokens.proofs.PulledLemmas.{IfErr_then, IfOk_then, items_before, items_before-no_items, items_push, reads_array}
use Rattle.doc_tokens.proofs.PulledLemmas.{reads_boolean}
use Rattle.doc_tokens.proofs.PulledLemmas.{reads_deeper, reads_item, reads_member, reads_no_items, reads_no_members, reads_null}
use Rattle.doc_tokens.proofs.PulledLemmas.{reads_number, reads_object, reads_shorter, reads_string}
use Rattle.doc_tokens.proofs.pull.+values.Goals as goal

pub pull_items-loop-alloc-init : goal.pull_items-loop-alloc-init
pull_items-loop-alloc-init t c =
    let all = converted of_items (items (value c.args.depth) (length c.args.reader.now) c.args.reader.now) in
    let none : c.new-found.result.items ≡ [] = c.new-found.ensures.items in (
      length c.args.reader.now,
      omega arith,
      none_before all ∙ ap (λ (vs : List Value). parse_map (items_before vs) all) (sym none),
      λ ds new reads. subst (λ (vs : List Value). ReadsItems c.args.depth c.args.reader.now (items_before vs ds) new) (sym none) reads,
    )

pub pull_items-returns-in_err-pull_value-clause-err : goal.pull_items-returns-in_err-pull_value-clause-err
pull_items-returns-in_err-pull_value-clause-err t c =
    let l = c.loop-alloc in
    let p = value c.args.depth in
    let going : (after_end_array l.reader ≡ None) × (c.take_end_array.new.self ≡ l.reader) = grind arith in
    let e = c.in_err-pull_value.field-0.0 in
    passed_on c.from_residual.result (λ stop. StopsFor stop (converted of_items (items p (length c.args.reader.now) c.args.reader.now))) e
    c.from_residual.ensures.1
    (stops_on e _ _ (λ none. l.invariant.2 ∙ ap (parse_map (items_before l.found.items)) (item_refused p l.invariant.0 l.reader going.0
    (ap (λ ts. converted of_json (p ts)) (sym going.1) ∙ none))) c.in_err-pull_value.ensures.err)

pub pull_items-loop-alloc-smaller : goal.pull_items-loop-alloc-smaller
pull_items-loop-alloc-smaller t c =
    let going : (after_end_array c.loop-alloc.reader ≡ None) × (c.take_end_array.new.self ≡ c.loop-alloc.reader) = grind arith in
    omega (arith, reads_shorter c.args.depth _ _ _ c.in_ok-pull_value.ensures.ok, ap length going.1)

pub pull_items-loop-alloc-preserved : goal.pull_items-loop-alloc-preserved
pull_items-loop-alloc-preserved t c =
    let l = c.loop-alloc in
    let k = c.args.depth in
    let p = value k in
    let n = l.invariant.0 in
    let v = c.in_ok-pull_value.field-0 in
    let mid = c.pull_value.new.reader in
    let going : (after_end_array l.reader ≡ None) × (c.take_end_array.new.self ≡ l.reader) = grind arith in
    let pushed : c.push.new.self.items ≡ l.found.items ++ v ∷ [] = grind (arith, rules) in
    let first = subst (λ ts. ReadsValue k ts (view v) mid) going.1 c.in_ok-pull_value.ensures.ok in
    let less : length mid < length l.reader = reads_shorter k l.reader (view v) mid first in
    let later = converted of_items (items p (n - 1) mid) in
    let behind : (ds : Items) → items_before l.found.items (item (view v) ds) ≡ items_before c.push.new.self.items ds =
    λ ds. items_push l.found.items v ds ∙ ap (λ vs. items_before vs ds) (sym pushed) in (
      n - 1,
      omega (arith, less, l.invariant.1),
      l.invariant.2 ∙ ap (parse_map (items_before l.found.items))
          (item_read p n l.reader mid (view v) (omega (arith, less, l.invariant.1)) going.0 (first k (omega arith)))
          ∙ item_behind (items_before l.found.items) (view v) later ∙ (λ i. parse_map (λ ds. behind ds i) later),
      λ ds new reads. subst (λ all. ReadsItems k c.args.reader.now all new) (behind ds)
          (l.invariant.3 (item (view v) ds) new (reads_item k l.reader mid new (view v) ds going.0 first reads)),
    )

pub pull_items-returns-clause-ok : goal.pull_items-returns-clause-ok
pull_items-returns-clause-ok t c =
    let l = c.loop-alloc in
    let closed : after_end_array l.reader ≡ Some c.take_end_array.new.self = grind arith in
    subst (λ all. ReadsItems c.args.depth c.args.reader.now all c.take_end_array.new.self) (items_before-no_items l.found.items)
    (l.invariant.3 no_items _ (reads_no_items c.args.depth l.reader _ closed))

pub pull_members-loop-found-init : goal.pull_members-loop-found-init
pull_members-loop-found-init t c = (length c.args.reader.now, omega arith, refl, λ ms new reads. reads)

pub pull_members-returns-in_err-name-clause-err : goal.pull_members-returns-in_err-name-clause-err
pull_members-returns-in_err-name-clause-err t c =
    let l = c.loop-found in
    let refused = key_refused (value c.args.depth) (members_view l.found.entries) l.invariant.0 l.reader c.in_err-name.ensures.value in
    each_stop c.from_residual.result _ (l.invariant.2 ∙ refused)

pub pull_members-returns-in_err-member-clause-err : goal.pull_members-returns-in_err-member-clause-err
pull_members-returns-in_err-member-clause-err t c =
    let l = c.loop-found in
    let k = c.in-Some.name.now in
    let named : read_key l.reader ≡ Some (Some k, c.next_key.new.self) = grind (arith, rules) in
    let e = c.in_err-member.field-0.0 in
    passed_on c.from_residual-in_err-member.result (λ stop. StopsFor stop _) e c.from_residual-in_err-member.ensures.1
    (stops_on e _ _ (λ none. l.invariant.2 ∙ member_refused (value c.args.depth) (members_view l.found.entries) l.invariant.0 k l.reader
    c.next_key.new.self named none) c.in_err-member.ensures.err)

pub pull_members-loop-found-smaller : goal.pull_members-loop-found-smaller
pull_members-loop-found-smaller t c =
    let named : read_key c.loop-found.reader ≡ Some (Some c.in-Some.name.now, c.next_key.new.self) = grind (arith, rules) in
    omega (arith, reads_shorter c.args.depth _ _ _ c.in_ok-member.ensures.ok, read_key-shorter _ _ _ named)

pub pull_members-loop-found-preserved : goal.pull_members-loop-found-preserved
pull_members-loop-found-preserved t c =
    let l = c.loop-found in
    let k = c.args.depth in
    let n = l.invariant.0 in
    let name = c.in-Some.name.now in
    let s = c.next_key.new.self in
    let v = c.in_ok-member.member in
    let mid = c.pull_value.new.reader in
    let old = members_view l.found.entries in
    let named : read_key l.reader ≡ Some (Some name, s) = grind (arith, rules) in
    let copied : string_bytes c.in_ok-key.key ≡ name = grind (arith, rules) in
    let entries : c.insert.new.self.entries ≡ insert_entry string_cmp l.found.entries c.in_ok-key.key v = grind (arith, rules) in
    let inserted : members_view c.insert.new.self.entries ≡ put name (view v) old =
    ap members_view entries ∙ members_view-insert_entry l.found.entries c.in_ok-key.key v ∙ ap (λ n. put n (view v) old) copied in
    let first = c.in_ok-member.ensures.ok in
    let less = read_key-shorter l.reader (Some name) s named in
    let lesser : length mid < length s = reads_shorter k s (view v) mid first in (
      n - 1,
      omega (arith, less, lesser, l.invariant.1),
      l.invariant.2
          ∙ member_read (value k) old n name l.reader s mid (view v) (omega (arith, less, l.invariant.1)) named (first k (omega arith))
          ∙ ap (λ found. converted (λ js. of_members js found) (members (value k) (n - 1) mid)) (sym inserted),
      λ ms new reads. l.invariant.3 ms new (reads_member k old name l.reader s mid new (view v) ms named less first
          (subst (λ found. ReadsMembers k found mid ms new) inserted reads)),
    )

pub pull_members-returns-clause-ok : goal.pull_members-returns-clause-ok
pull_members-returns-clause-ok t c =
    let l = c.loop-found in
    let ended : read_key l.reader ≡ Some (None, c.next_key.new.self) = grind (arith, rules) in
    l.invariant.3 (members_view l.found.entries) _ (reads_no_members c.args.depth (members_view l.found.entries) l.reader _ ended)

pub pull_value-returns-in_err-token-clause-err : goal.pull_value-returns-in_err-token-clause-err
pull_value-returns-in_err-token-clause-err t c =
    let empty : c.args.reader.now ≡ [] = grind arith in
    each_stop c.from_residual.result _ (ap (converted of_json) (ap (value c.args.depth) empty ∙ value_is c.args.depth []))

pub value_from-returns-in_ok-from_str-in-String-clause-ok : goal.value_from-returns-in_ok-from_str-in-String-clause-ok
value_from-returns-in_ok-from_str-in-String-clause-ok t c =
    let k = c.args.depth in
    let new = c.args.reader.now in
    let text = c.in-String.text.now in
    let seen : view (String c.in_ok-from_str-in-String.field-0) ≡ string text = search (rules, the_lemmas) in
    subst (λ d. ReadsValue k (token_of c.args.token ∷ new) d new) (sym seen)
    (subst (λ x. ReadsValue k (token_of x ∷ new) (string text) new) (sym c.in-String.is) (reads_string k text new))

pub value_from-returns-in-Number-clause-ok : goal.value_from-returns-in-Number-clause-ok
value_from-returns-in-Number-clause-ok t c =
    let k = c.args.depth in
    let new = c.args.reader.now in
    let s = c.in-Number.text.now in
    IfOk_then c.number_value.result c.number_value.ensures.ok
    (λ v w. subst (λ d. ReadsValue k (token_of c.args.token ∷ new) d new) (sym w.2)
    (subst (λ x. ReadsValue k (token_of x ∷ new) (number w.0) new) (sym c.in-Number.is) (reads_number k s w.0 new w.1)))

pub value_from-returns-in-Number-clause-err : goal.value_from-returns-in-Number-clause-err
value_from-returns-in-Number-clause-err t c =
    let k = c.args.depth in
    let ts = c.args.reader.now in
    let s = c.in-Number.text.now in
    IfErr_then c.number_value.result c.number_value.ensures.err
    (λ e none. inr (ap (λ x. converted of_json (value k (token_of x ∷ ts))) c.in-Number.is
    ∙ ap (converted of_json) (value_is k (Token.number s ∷ ts)) ∙ rw none refl))

pub value_from-returns-in-Bool-clause-ok : goal.value_from-returns-in-Bool-clause-ok
value_from-returns-in-Bool-clause-ok t c =
    let k = c.args.depth in
    let new = c.args.reader.now in
    let b = c.in-Bool.holds in
    let seen : view (Bool b) ≡ boolean b = search (rules, the_lemmas) in
    subst (λ d. ReadsValue k (token_of c.args.token ∷ new) d new) (sym seen)
    (subst (λ x. ReadsValue k (token_of x ∷ new) (boolean b) new) (sym c.in-Bool.is) (reads_boolean k b new))

pub value_from-returns-in-Null-clause-ok : goal.value_from-returns-in-Null-clause-ok
value_from-returns-in-Null-clause-ok t c =
    let k = c.args.depth in
    let new = c.args.reader.now in
    let seen : view Null ≡ null = search (rules, the_lemmas) in
    subst (λ d. ReadsValue k (token_of c.args.token ∷ new) d new) (sym seen)
    (subst (λ x. ReadsValue k (token_of x ∷ new) null new) (sym c.in-Null.is) (reads_null k new))

pub value_from-returns-in-EndObject-clause-err : goal.value_from-returns-in-EndObject-clause-err
value_from-returns-in-EndObject-clause-err t c = inr (stray c.args.depth c.args.token c.args.reader.now c.in-EndObject.is)

pub value_from-returns-then-depth-eq0-clause-err : goal.value_from-returns-then-depth-eq0-clause-err
unfolding value
value_from-returns-then-depth-eq0-clause-err t c =
    inr (ap (converted of_json) (ap₂ value c.if-depth-eq0.true (ap (λ k. token_of k ∷ c.args.reader.now) c.in-BeginArray.is)))

pub value_from-returns-then-depth-eq0-2-clause-err : goal.value_from-returns-then-depth-eq0-2-clause-err
unfolding value
value_from-returns-then-depth-eq0-2-clause-err t c =
    inr (ap (converted of_json) (ap₂ value c.if-depth-eq0-2.true (ap (λ k. token_of k ∷ c.args.reader.now) c.in-BeginObject.is)))

pub value_from-returns-in_err-pull_items-in-BeginArray-clause-err : goal.value_from-returns-in_err-pull_items-in-BeginArray-clause-err
value_from-returns-in_err-pull_items-in-BeginArray-clause-err t c =
    let k = c.args.depth in
    let ts = c.args.reader.now in
    let e = c.in_err-pull_items-in-BeginArray.field-0.0 in
    passed_on c.from_residual-in_err-pull_items-in-BeginArray.result
    (λ stop. StopsFor stop (converted of_json (value k (token_of c.args.token ∷ ts)))) e
    c.from_residual-in_err-pull_items-in-BeginArray.ensures.1
    (stops_on e _ _ (λ none. ap (λ x. converted of_json (value k (token_of x ∷ ts))) c.in-BeginArray.is
    ∙ array_opened k ts (omega arith) ∙ ap (parse_map array) none) c.in_err-pull_items-in-BeginArray.ensures.err)

pub value_from-returns-in_err-pull_members-in-BeginObject-clause-err :
    goal.value_from-returns-in_err-pull_members-in-BeginObject-clause-err
value_from-returns-in_err-pull_members-in-BeginObject-clause-err t c =
    let k = c.args.depth in
    let ts = c.args.reader.now in
    let e = c.in_err-pull_members-in-BeginObject.field-0.0 in
    let empty : members_view c.new.result.entries ≡ no_members = ap members_view c.new.ensures.empty in
    passed_on c.from_residual-in_err-pull_members-in-BeginObject.result
    (λ stop. StopsFor stop (converted of_json (value k (token_of c.args.token ∷ ts)))) e
    c.from_residual-in_err-pull_members-in-BeginObject.ensures.1
    (stops_on e (converted (λ js. of_members js (members_view c.new.result.entries)) (members (value (k - 1)) (length ts) ts))
    (converted of_json (value k (token_of c.args.token ∷ ts)))
    (λ none. ap (λ x. converted of_json (value k (token_of x ∷ ts))) c.in-BeginObject.is
    ∙ object_opened k ts (omega arith)
    ∙ ap (λ found. parse_map object (converted (λ js. of_members js found) (members (value (k - 1)) (length ts) ts))) (sym empty)
    ∙ ap (parse_map object) none) c.in_err-pull_members-in-BeginObject.ensures.err)

pub value_from-returns-in_ok-pull_items-in-BeginArray-clause-ok : goal.value_from-returns-in_ok-pull_items-in-BeginArray-clause-ok
value_from-returns-in_ok-pull_items-in-BeginArray-clause-ok t c =
    let k = c.args.depth in
    let inside = c.args.reader.now in
    let new = c.pull_items.new.reader in
    let found = c.in_ok-pull_items-in-BeginArray.field-0 in
    let reads = reads_deeper (suc (k - 1)) k (Token.begin_array ∷ inside) (array (items_view found.items)) new (omega arith)
    (reads_array (k - 1) inside (items_view found.items) new c.in_ok-pull_items-in-BeginArray.ensures.ok) in
    subst (λ d. ReadsValue k (token_of c.args.token ∷ inside) d new) (sym (view-Array found))
    (subst (λ x. ReadsValue k (token_of x ∷ inside) (array (items_view found.items)) new) (sym c.in-BeginArray.is) reads)

pub value_from-returns-in_ok-pull_members-in-BeginObject-clause-ok : goal.value_from-returns-in_ok-pull_members-in-BeginObject-clause-ok
value_from-returns-in_ok-pull_members-in-BeginObject-clause-ok t c =
    let k = c.args.depth in
    let inside = c.args.reader.now in
    let new = c.pull_members.new.reader in
    let found = c.in_ok-pull_members-in-BeginObject.field-0 in
    let none : members_view c.new.result.entries ≡ no_members = ap members_view c.new.ensures.empty in
    let members = subst (λ before. ReadsMembers (k - 1) before inside (members_view found.entries) new) none
    c.in_ok-pull_members-in-BeginObject.ensures.ok in
    let reads = reads_deeper (suc (k - 1)) k (Token.begin_object ∷ inside) (object (members_view found.entries)) new (omega arith)
    (reads_object (k - 1) inside (members_view found.entries) new members) in
    subst (λ d. ReadsValue k (token_of c.args.token ∷ inside) d new) (sym (view-Object found))
    (subst (λ x. ReadsValue k (token_of x ∷ inside) (object (members_view found.entries)) new) (sym c.in-BeginObject.is) reads)

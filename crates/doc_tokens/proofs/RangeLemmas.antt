-- Ranges that follow one another.
use Rattle.std.proofs.Common.{◌≡◌, ◌≤◌, ◌+◌, List, [], ◌∷◌, ◌++◌, length, false, true, refl, sym, subst, ap, ◌∙◌, append_assoc}
use Rattle.std.proofs.Common.{append-nil, arith}
use Rattle.std.proofs.lemmas.List.{length-append}
use Rattle.json.specs.Token.{Token, begin_array, end_array, end_object}
use Rattle.serde_json.specs.Data.{Data, Items, item, no_items}
use Rattle.serde_json.specs.Events.{items_len}
use Rattle.meaning.specs.Trees as tree
use Rattle.meaning.specs.declared.limits.TheConstants.{MAX_DEPTH}
use Rattle.doc_tree.specs.Answer.{AreMet}
use Rattle.doc_tree.specs.Asked.{declared_by, setting_in}
use Rattle.doc_rules.specs.Limits.{limits_of}
use Rattle.doc_tree.specs.Places.{item_at, placed, seek, transaction_placed, transactions_placed}
use Rattle.doc_tree.specs.Scope.{Numbers, Setting, setting_of}
use Rattle.doc_tree.specs.Spelled.{block_of, blocks_of, parts_in, spelled}
use Rattle.doc_tree.specs.declared.counts.Counts.{Counts}
use Rattle.doc_tree.specs.declared.declared.Declared.{Declared}
use Rattle.doc_tree.proofs.ListLemmas.{in_front, in_front_none, in_front_push}
use Rattle.doc_tree.proofs.PlaceLemmas.{part_met}
use Rattle.doc_cuts.specs.Whole.{is_left, is_whole}
use Rattle.doc_cuts.proofs.Wholes.{whole_append}
use Rattle.doc_tokens.specs.Pulled.{ReadsItems, ReadsValue, in_order}
use Rattle.doc_tokens.specs.Ranges.{AreRead, IsBegun, IsHead, Reached}
use Rattle.doc_tokens.specs.Ranges as ranges
use Rattle.doc_tokens.proofs.DocumentLemmas.{same_parts}
use Rattle.doc_tokens.proofs.LongerLemmas.{value_longer, value_whole}
use Rattle.doc_tokens.proofs.PulledDocument.{in_order_met, version_is}
use Rattle.doc_tokens.proofs.PulledLemmas.{items_deeper, reads_item, reads_no_items}

-- items in front of others, one after the other
front_both : (cs ds es : Items) → ranges.in_front cs (ranges.in_front ds es) ≡ ranges.in_front (ranges.in_front cs ds) es
front_both no_items ds es = refl
front_both (item c cs) ds es = ap (item c) (front_both cs ds es)

module _ (setting : Setting) where
  -- no transaction was read
  pub none_read : (ts : List Token) (p : Reached) → AreRead setting ts ts p p
  none_read ts p = record {
    before = λ ds. ds;
    front = λ ds. refl;
    reads = λ later ds rest reads. reads;
    met = λ ds. refl;
    spelled = λ ds. refl;
    counted = λ ds. refl;
    whole = λ h. h;
  }

  -- those of two parts of the tokens, one after the other
  pub both_read : (old mid new : List Token) (p q r : Reached) → AreRead setting old mid p q → AreRead setting mid new q r
      → AreRead setting old new p r
  both_read old mid new p q r first second = record {
    before = λ ds. first.before (second.before ds);
    front = λ ds.
        (let later = second.before no_items in
        first.front (second.before ds) ∙ ap (ranges.in_front (first.before no_items)) (second.front ds)
        ∙ front_both (first.before no_items) later ds ∙ ap (λ cs. ranges.in_front cs ds) (sym (first.front later)));
    reads = λ later ds rest reads. first.reads later (second.before ds) rest (second.reads later ds rest reads);
    met = λ ds. first.met (second.before ds) ∙ second.met ds;
    spelled = λ ds. first.spelled (second.before ds) ∙ second.spelled ds;
    counted = λ ds. first.counted (second.before ds) ∙ second.counted ds;
    whole = λ h. first.whole (second.whole h);
  }

  -- those of a range with the tokens of the next after it
  widened : (old more : List Token) (p q : Reached) → AreRead setting old [] p q → AreRead setting (old ++ more) more p q
  unfolding is_left
  widened old more p q first = record {
    before = first.before;
    front = first.front;
    reads = λ later ds rest reads. subst (λ ts. ReadsItems 120 ts (first.before ds) rest) (sym (append_assoc old more later))
        (first.reads (more ++ later) ds rest reads);
    met = first.met;
    spelled = first.spelled;
    counted = first.counted;
    whole = λ h. whole_append true old more (first.whole refl) h;
  }

  -- those of a range and of the next
  pub read_on : (old more left : List Token) (p q r : Reached) → AreRead setting old [] p q → AreRead setting more left q r
      → AreRead setting (old ++ more) left p r
  read_on old more left p q r first second = both_read (old ++ more) more left p q r (widened old more p q first) second

  -- one more transaction
  pub one_read : (old new : List Token) (p : Reached) (counts : Counts) (numbers : Numbers) (b : tree.Block) (d : Data)
      → ReadsValue 120 (begin_array ∷ old) d new → AreMet p.counts (transaction_placed (length p.blocks + 1) setting d) counts
      → (b, numbers) ≡ block_of setting MAX_DEPTH [] p.numbers d
      → AreRead setting (begin_array ∷ old) new p (record { counts = counts; numbers = numbers; blocks = p.blocks ++ b ∷ [] })
  one_read old new p counts numbers b d reads met spells =
      let i = length p.blocks in
      let next : length (p.blocks ++ b ∷ []) ≡ i + 1 = length-append p.blocks (b ∷ []) in record {
        before = λ ds. item d ds;
        front = λ ds. refl;
        reads = λ later ds rest tail. reads_item 120 (begin_array ∷ (old ++ later)) (new ++ later) rest d ds refl
            (value_longer 120 (begin_array ∷ old) new later d reads) tail;
        met = λ ds. part_met p.counts counts (item_at i) (transaction_placed (i + 1) setting d) (transactions_placed setting (i + 1) ds) met
            ∙ ap (λ n. seek counts (transactions_placed setting n ds)) (sym next);
        spelled = λ ds.
            ap (λ (x : tree.Block × Numbers). in_front p.blocks (x.0 ∷ (blocks_of setting x.1 ds).0, (blocks_of setting x.1 ds).1))
            (sym spells)
            ∙ sym (in_front_push p.blocks b (blocks_of setting numbers ds));
        counted = λ ds. omega (arith, next);
        whole = λ h. value_whole 120 (begin_array ∷ old) new d reads h true;
      }

module _ (declared : Declared) (start : Counts) (numbers : Numbers) where
  -- a head with more tokens after it
  pub head_longer : (old new more : List Token) (mid : Counts) (between : Numbers) → IsHead old new declared start numbers mid between
      → IsHead (old ++ more) (new ++ more) declared start numbers mid between
  head_longer old new more mid between head = record {
    version = head.version;
    known = head.known;
    os = head.os;
    few = head.few;
    objects = head.objects;
    named = head.named;
    set = head.set;
    started = head.started;
    begins = λ later inside ts rest is reads.
        subst (λ us. ReadsValue 127 us (in_order head.version head.os ts) rest) (sym (append_assoc old more later))
        (head.begins (more ++ later) inside ts rest (sym (append_assoc new more later) ∙ is) reads);
  }

  -- a document that was begun goes on with a range
  pub begun_on : (old more left : List Token) (q r : Reached) → IsBegun old [] declared start numbers q
      → AreRead (setting_of declared) more left q r → IsBegun (old ++ more) left declared start numbers r
  unfolding is_left
  begun_on old more left q r begun next = record {
    mid = begun.mid;
    between = begun.between;
    inside = begun.inside ++ more;
    head = head_longer old (begin_array ∷ begun.inside) more begun.mid begun.between begun.head;
    transactions = read_on (setting_of declared) begun.inside more left _ q r begun.transactions next;
    whole = λ h. whole_append false old more (begun.whole refl) (next.whole h);
  }

  -- a document whose head and whose transactions were read to its end
  pub head_whole : (old inside : List Token) (mid : Counts) (between : Numbers) (q : Reached)
      → IsHead old (begin_array ∷ inside) declared start numbers mid between
      → AreRead (setting_of declared) inside (end_array ∷ end_object ∷ []) (record { counts = mid; numbers = between; blocks = [] }) q
      → length q.blocks ≤ (limits_of declared.version).transactions
      → (d : Data) × ReadsValue 127 old d [] × AreMet start (placed d) q.counts × (setting_of declared ≡ setting_in d)
      × (spelled declared.objects q.blocks q.numbers ≡ parts_in numbers d)
  head_whole old inside mid between q head read few =
      let setting = setting_of declared in
      let version = head.version in
      let os = head.os in
      let ts = read.before no_items in
      let end = end_array ∷ end_object ∷ [] in
      let items = read.reads [] no_items (end_object ∷ []) (reads_no_items 120 end (end_object ∷ []) refl) in
      let reads = subst (λ us. ReadsValue 127 us (in_order version os ts) []) (append-nil old)
      (head.begins [] (inside ++ []) ts [] refl (items_deeper 120 125 _ ts (end_object ∷ []) (omega arith) items)) in
      let same : declared.version ≡ version = ap (λ s. s.version) head.set in
      let fewer : items_len ts ≤ (limits_of version).transactions = subst (λ v. items_len ts ≤ (limits_of v).transactions) same
      (omega (arith, read.counted no_items, few)) in
      let spells : (q.blocks, q.numbers) ≡ blocks_of setting between ts =
      sym (read.spelled no_items ∙ in_front_none q.blocks q.numbers) in (
        in_order version os ts,
        reads,
        in_order_met version os ts head.known.0 head.known.1 start mid q.counts head.few fewer head.objects
            (subst (λ s. AreMet mid (transactions_placed s 0 ts) q.counts) head.set (read.met no_items)),
        head.set ∙ ap (λ v. declared_by v os) (version_is version os ts head.known.0 head.known.1),
        same_parts (in_order version os ts) numbers between q.numbers version os ts setting declared.objects q.blocks
            (version_is version os ts head.known.0 head.known.1) refl refl head.set head.started spells,
      )

  -- a document that was read to its end
  pub begun_whole : (old : List Token) (q : Reached) → IsBegun old (end_array ∷ end_object ∷ []) declared start numbers q
      → length q.blocks ≤ (limits_of declared.version).transactions
      → (d : Data) × ReadsValue 127 old d [] × AreMet start (placed d) q.counts × (setting_of declared ≡ setting_in d)
      × (spelled declared.objects q.blocks q.numbers ≡ parts_in numbers d)
  begun_whole old q begun few = head_whole old begun.inside begun.mid begun.between q begun.head begun.transactions few

-- tokens that begin with an array are whole wherever they are
pub array_whole : (head rest : List Token) → head ≡ begin_array ∷ rest → is_whole true head ≡ true → is_whole false head ≡ true
unfolding is_left
array_whole head rest is h = ap (is_whole false) is ∙ sym (ap (is_whole true) is) ∙ h

-- so are those after a list with no transaction
pub end_whole : (head : List Token) → head ≡ end_array ∷ end_object ∷ [] → is_whole false head ≡ true
unfolding is_left
end_whole head is = ap (is_whole false) is

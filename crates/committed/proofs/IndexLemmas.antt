-- Chains of links, and what is found along them.
use Rattle.std.proofs.Common.{◌≡◌, ◌≢◌, ◌⊎◌, ℕ, ◌+◌, ◌-◌, ◌<◌, ◌≤◌, arith, Bool, List, [], ◌∷◌, ◌++◌, length, get_or, refl, sym}
use Rattle.std.proofs.Common.{ap, ◌∙◌, subst, inl, inr}
use Rattle.std.proofs.lemmas.Bool.{cases_eq, cases_lt}
use Rattle.std.proofs.lemmas.List.{length-append, get_or_append_left, get_or-append_right, get_or_past}
use Rattle.std.specs.List.{position_or_len}
use Rattle.std.specs.Map.{keys_of, values_of}
use Rattle.indexmap.specs.IndexMap.{index_map_len, insert_entry}
use Rattle.objects.specs.declared.entry.Entry.{Entry}
use Rattle.objects.specs.Entries.{CommuteForward}
use Rattle.committed.specs.declared.heading.Heading.{Heading}
use Rattle.committed.specs.contracts.heading.HeadingPartialEq.TheImpl as heading_eq
use Rattle.committed.specs.declared.index.Index.{Index}
use Rattle.committed.specs.declared.index.Link.{Link}
use Rattle.committed.specs.declared.index.TheConstants.{MOST_LISTED}
use Rattle.committed.specs.Index.{number_of, no_link, link_at, heading_at, place_at, IsEnd, IsLastOf, IsLink, IsSpan, AreLinks, AreLasts}
use Rattle.committed.specs.Index.{HasLasts, AreSpans, AreUpTo, IsAmong, IsLinked, KeepsLinked, IsListed, IsListedAt, IsIndexOf, StaysIndex}
use Rattle.conflicts.specs.Strictness.{IsAsStrict}
use Rattle.committed.proofs.HeadingsLemmas.{length-values, own_value, other_value, no_fewer, one_more, kept_number, own_number}
use Rattle.committed.proofs.HeadingsLemmas.{same_heading}

-- ---- one more link

-- the links before it stay
pub stays : (links : List Link) (x : Link) (n : ℕ) → n < length links → link_at (links ++ x ∷ []) n ≡ link_at links n
stays links x n within = get_or_append_left links (x ∷ []) no_link n within

-- it is the last one
pub comes : (links : List Link) (x : Link) → link_at (links ++ x ∷ []) (length links) ≡ x
comes links x =
    let none : length links - length links ≡ 0 = omega arith in
    get_or-append_right links (x ∷ []) (length links) (length links) no_link refl (omega arith) ∙ ap (λ n. get_or (x ∷ []) n no_link) none

-- they are one more
pub counts : (links : List Link) (x : Link) → length (links ++ x ∷ []) ≡ length links + 1
counts links x = length-append links (x ∷ [])

-- a link of a chain is one among more
pub end_more : (links : List Link) (x : Link) (count more own found : ℕ) → count ≤ length links → count ≤ more
    → IsEnd links count own found → IsEnd (links ++ x ∷ []) more own found
end_more links x count more own found within fewer is = (
  omega (arith, is.0),
  λ some. ap (λ (y : Link). y.heading) (stays links x (found - 1) (omega (arith, is.0))) ∙ is.1 some,
)

-- so is what a link is
pub link_more : (links : List Link) (x : Link) (count : ℕ) (y : Link) → count ≤ length links
    → IsLink links count y → IsLink (links ++ x ∷ []) count y
link_more links x count y within is = record {
  rising = λ m l. subst (λ (z : Link). z.place ≤ y.place) (sym (stays links x m (omega arith))) (is.rising m l);
  before = end_more links x count count y.heading y.before within (omega arith) is.before;
  apart = λ m from l same. is.apart m from l (sym (ap (λ (z : Link). z.heading) (stays links x m (omega arith))) ∙ same);
  skip = end_more links x count count y.heading y.skip within (omega arith) is.skip;
  span = end_more links x count count y.heading y.span within (omega arith) is.span;
}

-- and what is among them
among_more : (links : List Link) (x : Link) (count more own place : ℕ) → count ≤ length links → count ≤ more
    → IsAmong links count own place → IsAmong (links ++ x ∷ []) more own place
among_more links x count more own place within fewer is = record {
  at = is.at;
  within = omega (arith, is.within);
  heading_is = ap (λ (y : Link). y.heading) (stays links x is.at (omega (arith, is.within))) ∙ is.heading_is;
  place_is = ap (λ (y : Link). y.place) (stays links x is.at (omega (arith, is.within))) ∙ is.place_is;
}

-- and a span
pub span_more : (es : List Entry) (links : List Link) (x : Link) (count : ℕ) (y : Link) → count ≤ length links
    → IsSpan es links count y → IsSpan es (links ++ x ∷ []) count y
span_more es links x count y within is = record {
  place = is.place;
  strictest = is.strictest;
  chosen = elim is.chosen [
    | inl own ↦ inl own
    | inr other ↦ inr (among_more links x count count y.heading y.strictest within (omega arith) other)
  ];
  own = is.own;
  others = λ m from l same d.
      subst (λ (z : Link). IsAsStrict (get_or es y.strictest d) (get_or es z.place d)) (sym (stays links x m (omega arith)))
      (is.others m from l (sym (ap (λ (z : Link). z.heading) (stays links x m (omega arith))) ∙ same) d);
}

-- spans of links with one more
pub spanned_next : (es : List Entry) (links : List Link) (x : Link) → AreSpans es links
    → IsSpan es links (length links) x → AreSpans es (links ++ x ∷ [])
spanned_next es links x spans own n l = elim (cases_lt n (length links)) [
  | inl before ↦ subst (IsSpan es (links ++ x ∷ []) n) (sym (stays links x n before))
      (span_more es links x n (link_at links n) (omega arith) (spans n before))
  | inr last ↦ (let is : length links ≡ n = omega (arith, counts links x) in
      subst (λ k. IsSpan es (links ++ x ∷ []) k (link_at (links ++ x ∷ []) k)) is
      (subst (IsSpan es (links ++ x ∷ []) (length links)) (sym (comes links x)) (span_more es links x (length links) x
      (omega arith) own)))
]

-- links with one more
pub links_next : (links : List Link) (x : Link) → AreLinks links → IsLink links (length links) x → AreLinks (links ++ x ∷ [])
links_next links x each link n l = elim (cases_lt n (length links)) [
  | inl before ↦ subst (IsLink (links ++ x ∷ []) n) (sym (stays links x n before))
      (link_more links x n (link_at links n) (omega arith) (each n before))
  | inr last ↦ (let at : length links ≡ n = omega (arith, counts links x) in
      subst (λ k. IsLink (links ++ x ∷ []) k (link_at (links ++ x ∷ []) k)) at
      (subst (IsLink (links ++ x ∷ []) (length links)) (sym (comes links x)) (link_more links x (length links) x
      (omega arith) link)))
]

-- the last links with one more link, which is the last one of its heading
pub lasts_next : (links : List Link) (x : Link) (old new : List ℕ) → get_or new x.heading 0 ≡ length links + 1
    → ((other : ℕ) → other ≢ x.heading → get_or new other 0 ≡ get_or old other 0) → length new ≤ length old + 1
    → AreLasts links old → AreLasts (links ++ x ∷ []) new
lasts_next links x old new here there size lasts = record {
  each = λ other. elim (cases_eq other x.heading) [
    | inl same ↦ subst (IsLastOf (links ++ x ∷ []) other) (sym (ap (λ k. get_or new k 0) same ∙ here)) (last_here other same)
    | inr differs ↦ subst (IsLastOf (links ++ x ∷ []) other) (sym (there other differs)) (last_there other differs)
  ];
  few = omega (arith, size, lasts.few, counts links x);
}
  where
    last_here : (other : ℕ) → other ≡ x.heading → IsLastOf (links ++ x ∷ []) other (length links + 1)
    last_here other same = record {
      end = (
        omega (arith, counts links x),
        λ some. ap (λ k. heading_at (links ++ x ∷ []) k) (omega arith) ∙ ap (λ (z : Link). z.heading) (comes links x) ∙ sym same,
      );
      after = λ m from l. absurd (omega (arith, from, l, counts links x));
    }

    last_there : (other : ℕ) → other ≢ x.heading → IsLastOf (links ++ x ∷ []) other (get_or old other 0)
    last_there other differs = record {
      end = end_more links x (length links) (length (links ++ x ∷ [])) other (get_or old other 0) (omega arith)
          (omega (arith, counts links x)) (lasts.each other).end;
      after = λ m from l. elim (cases_lt m (length links)) [
        | inl before ↦ (λ e. (lasts.each other).after m from before
            (sym (ap (λ (z : Link). z.heading) (stays links x m before)) ∙ e))
        | inr last ↦ (λ e. let at : m ≡ length links = omega (arith, counts links x) in
            differs (sym e ∙ ap (λ k. heading_at (links ++ x ∷ []) k) at ∙ ap (λ (z : Link). z.heading) (comes links x)))
      ];
    }

-- the last links of an index, where one more link is put under a heading
pub lasts_put : (index : Index) (heading : Heading) (x : Link) (more : List Link) (entries : List (Heading × ℕ))
    → x.heading ≡ number_of index heading → more ≡ index.links.items ++ x ∷ []
    → entries ≡ insert_entry heading_eq.ghosts.eq index.last.entries heading (length index.links.items + 1)
    → HasLasts index → AreLasts more (values_of entries)
lasts_put index heading x more entries number more_is entries_is lasts =
    subst (λ ls. AreLasts ls (values_of entries)) (sym more_is)
    (subst (λ es. AreLasts (links ++ x ∷ []) (values_of es)) (sym entries_is) (lasts_next links x (values_of old) (values_of new)
    (ap (λ n. get_or (values_of new) n 0) number ∙ own_value eq heading count old)
    (λ other differs. other_value eq heading count old other (λ same. differs (same ∙ sym number)))
    (omega (arith, length-values new, length-values old, one_more eq heading count old)) lasts))
  where
    eq : Heading → Heading → Bool
    eq = heading_eq.ghosts.eq

    links : List Link
    links = index.links.items

    count : ℕ
    count = length links + 1

    old : List (Heading × ℕ)
    old = index.last.entries

    new : List (Heading × ℕ)
    new = insert_entry eq old heading count

-- what is linked stays so with one more link
pub linked_more : (index new : Index) (heading : Heading) (value : ℕ) (x : Link) → new.links.items ≡ index.links.items ++ x ∷ []
    → new.last.entries ≡ insert_entry heading_eq.ghosts.eq index.last.entries heading value
    → (place : ℕ) (other : Heading) → IsLinked index place other → IsLinked new place other
linked_more index new heading value x links_are entries_are place other is =
    let number : number_of new other ≡ number_of index other =
    ap (λ es. position_or_len (heading_eq.ghosts.eq other) (keys_of es)) entries_are
    ∙ kept_number heading_eq.ghosts.eq heading value (heading_eq.ghosts.eq other) index.last.entries is.known in
    record {
      link = subst (λ ls. IsAmong ls (length ls) (number_of new other) place) (sym links_are)
          (subst (λ n. IsAmong (index.links.items ++ x ∷ []) (length (index.links.items ++ x ∷ [])) n place) (sym number)
          (among_more index.links.items x (length index.links.items) (length (index.links.items ++ x ∷ [])) (number_of index other) place
          (omega arith) (omega (arith, counts index.links.items x)) is.link));
      known = omega (arith, is.known, number, ap length entries_are, no_fewer heading_eq.ghosts.eq heading value index.last.entries);
    }

-- and the new link is linked
pub linked_own : (index new : Index) (heading : Heading) (value : ℕ) (x : Link) → x.heading ≡ number_of index heading
    → new.links.items ≡ index.links.items ++ x ∷ []
    → new.last.entries ≡ insert_entry heading_eq.ghosts.eq index.last.entries heading value
    → number_of index heading < index_map_len new.last → IsLinked new x.place heading
linked_own index new heading value x number_is links_are entries_are known =
    let number : number_of new heading ≡ number_of index heading =
    ap (λ es. position_or_len (heading_eq.ghosts.eq heading) (keys_of es)) entries_are
    ∙ own_number heading_eq.ghosts.eq heading value (same_heading heading) index.last.entries in
    let link : link_at new.links.items (length index.links.items) ≡ x = ap (λ ls. link_at ls (length index.links.items)) links_are
    ∙ comes index.links.items x in
    record {
      link = record {
        at = length index.links.items;
        within = omega (arith, ap length links_are, counts index.links.items x);
        heading_is = ap (λ (y : Link). y.heading) link ∙ number_is ∙ sym number;
        place_is = ap (λ (y : Link). y.place) link;
      };
      known = omega (arith, known, number);
    }

-- ---- spans

-- a link that lengthens the span of the last one of its chain
pub span_joined : (es : List Entry) (links : List Link) (last : ℕ) (x : Link) → 0 < last → last ≤ length links
    → heading_at links (last - 1) ≡ x.heading → ((m : ℕ) → last ≤ m → m < length links → heading_at links m ≢ x.heading)
    → IsSpan es links (last - 1) (link_at links (last - 1)) → x.span ≡ (link_at links (last - 1)).span
    → x.place < length es → x.strictest ≤ x.place → (x.strictest ≡ x.place) ⊎ (x.strictest ≡ (link_at links (last - 1)).strictest)
    → ((d : Entry) → IsAsStrict (get_or es x.strictest d) (get_or es x.place d))
    → ((d : Entry) → IsAsStrict (get_or es x.strictest d) (get_or es (link_at links (last - 1)).strictest d))
    → IsSpan es links (length links) x
span_joined es links last x some within same after was span_is place strictest either own stricter = record {
  place = place;
  strictest = strictest;
  chosen = elim either [
    | inl mine ↦ inl mine
    | inr others ↦ inr (subst (IsAmong links (length links) x.heading) (sym others) (elim was.chosen [
      | inl its ↦ record { at = last - 1; within = omega arith; heading_is = same; place_is = sym its }
      | inr earlier ↦ record {
        at = earlier.at;
        within = omega (arith, earlier.within);
        heading_is = earlier.heading_is ∙ same;
        place_is = earlier.place_is;
      }
    ]))
  ];
  own = own;
  others = λ m from l one d e commutes. (let found : CommuteForward e (get_or es (link_at links (last - 1)).strictest d) =
      stricter d e commutes in
      elim (cases_lt m (last - 1)) [
        | inl before ↦ was.others m (subst (λ n. n ≤ m) span_is from) before (one ∙ sym same) d e found
        | inr late ↦ (elim (cases_lt m last) [
          | inl here ↦ (let at : last - 1 ≡ m = omega arith in
              subst (λ n. CommuteForward e (get_or es (place_at links n) d)) at (was.own d e found))
          | inr past ↦ absurd (after m past l one)
        ])
      ]);
}

-- ---- what is found along a chain

-- a link looked at whose strictest entry commutes passes its span
pub passes : (es : List Entry) (links : List Link) (at own upto : ℕ) (e : Entry) → 0 < at → at ≤ length links
    → heading_at links (at - 1) ≡ own → IsSpan es links (at - 1) (link_at links (at - 1))
    → CommuteForward e (get_or es (link_at links (at - 1)).strictest e)
    → ((m : ℕ) → at ≤ m → m < length links → heading_at links m ≡ own → place_at links m < upto
    → CommuteForward e (get_or es (place_at links m) e))
    → (m : ℕ) → (link_at links (at - 1)).span ≤ m → m < length links → heading_at links m ≡ own → place_at links m < upto
    → CommuteForward e (get_or es (place_at links m) e)
passes es links at own upto e some within same span commutes passed m from l one before = elim (cases_lt m (at - 1)) [
  | inl earlier ↦ span.others m from earlier (one ∙ sym same) e e commutes
  | inr late ↦ (elim (cases_lt m at) [
    | inl here ↦ (let is : at - 1 ≡ m = omega arith in
        subst (λ n. CommuteForward e (get_or es (place_at links n) e)) is (span.own e e commutes))
    | inr past ↦ passed m past l one before
  ])
]

-- the strictest entry of a span is one of its heading's
pub strictest_linked : (es : List Entry) (index : Index) (heading : Heading) (at : ℕ) → HasLasts index
    → at < length index.links.items → heading_at index.links.items at ≡ number_of index heading
    → IsSpan es index.links.items at (link_at index.links.items at) → IsLinked index (link_at index.links.items at).strictest heading
strictest_linked es index heading at lasts within same span = record {
  link = elim span.chosen [
    | inl its ↦ record { at = at; within = within; heading_is = same; place_is = sym its }
    | inr earlier ↦ record {
      at = earlier.at;
      within = omega (arith, earlier.within, within);
      heading_is = earlier.heading_is ∙ same;
      place_is = earlier.place_is;
    }
  ];
  known = elim (cases_lt own (length known)) [
    | inl before ↦ omega (arith, before, length-values index.last.entries)
    | inr past ↦ (let none : get_or known own 0 ≡ 0 = get_or_past known own 0 past in
        absurd ((lasts.each own).after at (omega (arith, none)) within same))
  ];
}
  where
    own : ℕ
    own = number_of index heading

    known : List ℕ
    known = values_of index.last.entries

-- ---- an index

-- where entries are put at the end, those that were there stay
before_end : (es more : List Entry) (d : Entry) (k : ℕ) → k < length es → get_or (es ++ more) k d ≡ get_or es k d
before_end es more d k within = get_or_append_left es more d k within

-- an index of entries is one of more entries
pub index_more : (es more : List Entry) (index : Index) → IsIndexOf es index → IsIndexOf (es ++ more) index
index_more es more index is = record {
  links = is.links;
  lasts = is.lasts;
  spans = λ n l. (let span = is.spans n l in
      let place : place_at index.links.items n < length es = span.place in
      record {
        place = omega (arith, place, length-append es more);
        strictest = span.strictest;
        chosen = span.chosen;
        own = λ d. subst (λ p. IsAsStrict p (get_or (es ++ more) (place_at index.links.items n) d))
            (sym (before_end es more d (link_at index.links.items n).strictest (omega (arith, place, span.strictest))))
            (subst (IsAsStrict (get_or es (link_at index.links.items n).strictest d)) (sym (before_end es more d
            (place_at index.links.items n) place)) (span.own d));
        others = λ m from before one d. subst (λ p. IsAsStrict p (get_or (es ++ more) (place_at index.links.items m) d))
            (sym (before_end es more d (link_at index.links.items n).strictest (omega (arith, place, span.strictest))))
            (subst (IsAsStrict (get_or es (link_at index.links.items n).strictest d))
            (sym (before_end es more d (place_at index.links.items m) (is.spans m (omega arith)).place)) (span.others m from before one d));
      });
  listed = λ k l d. subst (IsListed index k) (sym (before_end es more d k (omega (arith, is.within)))) (is.listed k l d);
  within = omega (arith, is.within, length-append es more);
  most = is.most;
  few = is.few;
  behind = is.behind;
}

-- what is linked is so in an index of the same headings and links
pub linked_moved : (index new : Index) → new.last.entries ≡ index.last.entries → new.links.items ≡ index.links.items → (place : ℕ)
    (heading : Heading) → IsLinked index place heading → IsLinked new place heading
linked_moved index new entries links place heading is =
    let number : number_of new heading ≡ number_of index heading =
    ap (λ es. position_or_len (heading_eq.ghosts.eq heading) (keys_of es)) entries in
    record {
      link = subst (λ ls. IsAmong ls (length ls) (number_of new heading) place) (sym links)
          (subst (λ n. IsAmong index.links.items (length index.links.items) n place) (sym number) is.link);
      known = omega (arith, is.known, number, ap length entries);
    }

-- an index stays one where only its memory moves
pub index_moved : (index new : Index) → new.last.entries ≡ index.last.entries → new.links.items ≡ index.links.items
    → new.listed ≡ index.listed → StaysIndex index new
index_moved index new entries links listed es is = record {
  links = subst AreLinks (sym links) is.links;
  lasts = subst (λ ls. AreLasts ls (values_of new.last.entries)) (sym links)
      (subst (λ ps. AreLasts index.links.items (values_of ps)) (sym entries) is.lasts);
  spans = subst (AreSpans es) (sym links) is.spans;
  listed = λ k l d. (let both = is.listed k (omega (arith, l, listed)) d in
      (linked_moved index new entries links k _ both.0, linked_moved index new entries links k _ both.1));
  within = omega (arith, is.within, listed);
  most = omega (arith, is.most, listed);
  few = omega (arith, is.few, listed, ap length links);
  behind = λ m l. omega (arith, is.behind m (omega (arith, l, ap length links)), listed, ap (λ ls. place_at ls m) links);
}

-- the next entry is listed, too, where it is in the chains of its object and of its item
pub index_next : (es : List Entry) (old put : Index) → IsIndexOf es old → old.listed < length es → old.listed < MOST_LISTED
    → put.listed ≡ old.listed → AreLinks put.links.items → HasLasts put → AreSpans es put.links.items → IsListedAt put es old.listed
    → KeepsLinked old put → AreUpTo put.links.items old.listed → length put.links.items ≤ length old.links.items + 2
    → let new : Index = record { last = put.last; links = put.links; listed = old.listed + 1 } in IsIndexOf es new
index_next es old put is next most same links lasts spans own kept last few =
    let new : Index = record { last = put.last; links = put.links; listed = old.listed + 1 } in
    let moved : (k : ℕ) (e : Entry) → IsListed put k e → IsListed new k e =
    λ k e both. (linked_moved put new refl refl k _ both.0, linked_moved put new refl refl k _ both.1) in
    record {
      links = links;
      lasts = lasts;
      spans = spans;
      listed = λ k l d. moved k (get_or es k d) (elim (cases_lt k old.listed) [
        | inl before ↦ (kept k _ (is.listed k before d).0, kept k _ (is.listed k before d).1)
        | inr here ↦ (let at : old.listed ≡ k = omega (arith, l, here) in
            subst (λ n. IsListed put n (get_or es n d)) at (own d))
      ]);
      within = omega (arith, next);
      most = omega (arith, most);
      few = omega (arith, few, is.few);
      behind = λ m l. omega (arith, last m l);
    }

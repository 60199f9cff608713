-- Calls that are made from templates, and operations of such calls.
use Rattle.std.proofs.Common.{◌≡◌, List, Option, Some, None, refl, sym, ap, subst}
use Rattle.std.specs.Prelude.{option_map, slice_get, IsSomeAnd}
use Rattle.atoms.specs.declared.amount.Amount.{Amount}
use Rattle.atoms.specs.declared.item.Item.{Item}
use Rattle.objects.specs.Objects.{kind_of_call}
use Rattle.objects.specs.declared.kind.Call.{Call}
use Rattle.objects.specs.declared.kind.Kind.{Kind}
use Rattle.vocabulary.proofs.Words.{amount_phrase, call_has, item_phrase, pair_phrase}
use Rattle.vocabulary.specs.Words.{HasKind, amount_call, item_call, pair_call, phrase_verb, verb_of}
use Rattle.vocabulary.specs.declared.verb.AmountVerb.{AmountVerb}
use Rattle.vocabulary.specs.declared.verb.ItemVerb.{ItemVerb}
use Rattle.vocabulary.specs.declared.verb.PairVerb.{PairVerb}
use Rattle.vocabulary.specs.declared.verb.Verb.{Verb}
use Rattle.vocabulary.specs.declared.verb.Verb.TheVariants as verb
use Rattle.meaning.specs.declared.held.Held.{Held}
use Rattle.meaning.specs.declared.template.Template.{Template}
use Rattle.meaning.specs.declared.template.Template.TheVariants.{Given, OfAmount, OfItem, OfPair}
use Rattle.meaning.specs.Filling.{fill, amount_from, item_from, item_of, pair_of, template_verb}
use Rattle.meaning.specs.Running.{FilledLaw}

-- the call is of the verb, and of the kind that the verb has
abbrev IsCallOf : Verb → Call → Type 0
IsCallOf v call = (verb_of call ≡ v) × ((k : Kind) → HasKind k v → kind_of_call call ≡ k)

made_of_amount : (v : AmountVerb) (a : Option Amount) (call : Call) → option_map (amount_call v) a ≡ Some call
    → IsCallOf (verb.OfAmount v) call
made_of_amount v None call is = absurd cc
made_of_amount v (Some a) call is =
    let same : amount_call v a ≡ call = cc in
    subst (IsCallOf (verb.OfAmount v)) same (ap phrase_verb (amount_phrase v a), λ k has. has a)

made_of_item : (v : ItemVerb) (x : Option Item) (call : Call) → option_map (item_call v) x ≡ Some call → IsCallOf (verb.OfItem v) call
made_of_item v None call is = absurd cc
made_of_item v (Some x) call is =
    let same : item_call v x ≡ call = cc in
    subst (IsCallOf (verb.OfItem v)) same (ap phrase_verb (item_phrase v x), λ k has. has x)

made_of_pair : (v : PairVerb) (k x : Option Item) (call : Call) → pair_of v k x ≡ Some call → IsCallOf (verb.OfPair v) call
made_of_pair v None x call is = absurd cc
made_of_pair v (Some k) None call is = absurd cc
made_of_pair v (Some k) (Some x) call is =
    let same : pair_call v k x ≡ call = cc in
    subst (IsCallOf (verb.OfPair v)) same (ap phrase_verb (pair_phrase v k x), λ kind has. has k x)

made : (held : List Held) (template : Template) (call : Call) → fill held template ≡ Some call → IsCallOf (template_verb template) call
made held (Given given) call is = let same : given ≡ call = cc in subst (IsCallOf (verb_of given)) same (refl, call_has given)
made held (OfAmount v label) call is = made_of_amount v (amount_from held label) call is
made held (OfItem v label) call is = made_of_item v (item_from held label) call is
made held (OfPair v key item) call is = made_of_pair v (item_of held key) (item_of held item) call is

fits_of : (o : Option Kind) (v : Verb) (call : Call) → ((k : Kind) → HasKind k v → kind_of_call call ≡ k) → IsSomeAnd o (λ k. HasKind k v)
    → o ≡ Some (kind_of_call call)
fits_of None v call of fits = absurd fits
fits_of (Some k) v call of fits = ap Some (sym (of k fits))

pub filled_law : FilledLaw
filled_law held template call is =
    let of = made held template call is in
    (of.0, λ ks object. fits_of (slice_get ks object) (template_verb template) call of.1)

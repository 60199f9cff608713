-- Sets and directories over a borrowed one, with the changes that led to them: one more change, and one taken back.
use Rattle.std.proofs.Common.{◌≡◌, ℕ, Bool, true, false, cond, not, List, [], ◌∷◌, Option, Some, refl, sym, ap, ◌∙◌, subst}
use Rattle.std.specs.Prelude.{is_some, IsSome}
use Rattle.std.specs.BTreeMap.{is_at}
use Rattle.std.specs.Ordering.{is_eq}
use Rattle.std.specs.Cmp.{tied_itself}
use Rattle.std.specs.FinSet as set
use Rattle.std.specs.FinMap as map
use Rattle.atoms.specs.Item.{item_cmp}
use Rattle.atoms.proofs.Items.{items_total}
use Rattle.atoms.specs.ItemSet.{Sets, set_undone}
use Rattle.atoms.specs.Directory.{Directories, put_at, directory_undoing}
use Rattle.atoms.specs.declared.item.Item.{Item}
use Rattle.atoms.specs.declared.item_set.SetChange.{SetChange}
use Rattle.atoms.specs.declared.item_set.SetChange.TheVariants.{Added, Removed}
use Rattle.atoms.specs.declared.directory.DirectoryChange.{DirectoryChange}
use Rattle.atoms.proofs.ItemSets.{has_inserted, has_removed, remove_inserted, insert_removed}
use Rattle.atoms.proofs.ItemMaps.{put_before}
use Rattle.drafts.specs.History.{changed, undone, journaled}
use Rattle.drafts.specs.Overlays.{put_item, over_set, over_directory, slot_at, AreTouched, changed_item, is_added, AreMade, IsSetKept}
use Rattle.drafts.proofs.HistoryLemmas.{journaled_more}
use Rattle.drafts.proofs.OverlayLemmas.{over_set-write, over_directory-write}

-- slots in which one was written
abbrev pub IsWritten : {B : Type 0} → List (Item × B) → List (Item × B) → Item → B → Type 0
IsWritten slots written k content = (q : Item) → slot_at written q ≡ cond (is_at (item_cmp k) q) (Some content) (slot_at slots q)

some_or : {B : Type 0} (b : Bool) (content : B) (slot : Option B) → IsSome slot → is_some (cond b (Some content) slot) ≡ true
some_or true content slot h = refl
some_or false content slot h = h

some_here : {B : Type 0} (b : Bool) (content : B) (slot : Option B) → b ≡ true → is_some (cond b (Some content) slot) ≡ true
some_here b content slot e = ap (λ d. is_some (cond d (Some content) slot)) e

-- the slot that is written is there
touched_here : {B : Type 0} (slots written : List (Item × B)) (k : Item) (content : B) → IsWritten slots written k content
    → IsSome (slot_at written k)
touched_here slots written k content h = ap is_some (h k) ∙ some_here (is_at (item_cmp k) k) content (slot_at slots k)
    (ap is_eq (tied_itself items_total k))

-- what was touched stays touched
touched_still : {B D : Type 0} (item_of : D → Item) (slots written : List (Item × B)) (k : Item) (content : B) (journal : List D)
    → IsWritten slots written k content
    → AreTouched item_of slots journal → AreTouched item_of written journal
touched_still item_of slots written k content [] h t = tt
touched_still item_of slots written k content (change ∷ journal) h t = (
  ap is_some (h (item_of change)) ∙ some_or (is_at (item_cmp k) (item_of change)) content (slot_at slots (item_of change)) t.0,
  touched_still item_of slots written k content journal h t.1,
)

-- one more change is touched where its slot is written
pub touched_more : {B D : Type 0} (item_of : D → Item) (slots written : List (Item × B)) (content : B) (journal pushed : List D)
    (change : D) → IsWritten slots written (item_of change) content
    → AreTouched item_of slots journal → pushed ≡ change ∷ journal → AreTouched item_of written pushed
touched_more item_of slots written content journal pushed change h t is =
    subst (AreTouched item_of written) (sym is) (
      touched_here slots written (item_of change) content h,
      touched_still item_of slots written
          (item_of change) content journal h t,
    )

pub touched_less : {B D : Type 0} (item_of : D → Item) (slots written : List (Item × B)) (content : B) (journal rest : List D) (change : D)
    → IsWritten slots written (item_of change) content
    → AreTouched item_of slots journal → journal ≡ change ∷ rest → AreTouched item_of written rest
touched_less item_of slots written content journal rest change h t is =
    let all : AreTouched item_of slots (change ∷ rest) = subst (AreTouched item_of slots) is t in
    touched_still item_of slots written (item_of change) content rest h all.1

-- ---- sets

-- after a change, and where it is taken back
abbrev pub set_done : Sets → SetChange → Sets
set_done s change = put_item s (changed_item change) (is_added change)

has_done : (s : Sets) (change : SetChange) → set.contains (set_done s change) (changed_item change) ≡ is_added change
has_done s (Added x) = has_inserted s x
has_done s (Removed x) = has_removed s x

set_back : (s : Sets) (change : SetChange) → set.contains s (changed_item change) ≡ not (is_added change)
    → set_undone (set_done s change) change ≡ s
set_back s (Added x) h = remove_inserted s x h
set_back s (Removed x) h = insert_removed s x h

undone_is : (s : Sets) (change : SetChange) → put_item s (changed_item change) (not (is_added change)) ≡ set_undone s change
undone_is s (Added x) = refl
undone_is s (Removed x) = refl

pub set_kept_more : (lent : Sets) (slots written : List (Item × Bool)) (size size_now : ℕ) (journal pushed : List SetChange)
    (change : SetChange) → IsSetKept lent slots size journal
    → set.contains (over_set lent slots) (changed_item change) ≡ not (is_added change) → IsWritten slots written (changed_item change)
    (is_added change)
    → size_now ≡ set.len (over_set lent written) → pushed ≡ change ∷ journal → IsSetKept lent written size_now pushed
set_kept_more lent slots written size size_now journal pushed change kept other h counted is =
    let s = over_set lent slots in
    let now : over_set lent written ≡ set_done s change = over_set-write lent slots written (changed_item change) (is_added change) h in
    let has : set.contains (over_set lent written) (changed_item change) ≡ is_added change =
    ap (λ t. set.contains t (changed_item change)) now ∙ has_done s change in
    let back : set_undone (over_set lent written) change ≡ s = ap (λ t. set_undone t change) now ∙ set_back s change other in
    record {
      counted = counted;
      small = kept.small;
      touched = touched_more changed_item slots written (is_added change) journal pushed change h kept.touched is;
      made = subst (AreMade (over_set lent written)) (sym is) (has, subst (λ t. AreMade t journal) (sym back) kept.made);
    }

pub set_history_more : (lent : Sets) (slots written : List (Item × Bool)) (journal pushed : List SetChange) (change : SetChange)
    → set.contains (over_set lent slots) (changed_item change) ≡ not (is_added change) → IsWritten slots written (changed_item change)
    (is_added change) → pushed ≡ change ∷ journal
    → journaled set_undone (over_set lent written) pushed ≡ changed (journaled set_undone (over_set lent slots) journal)
    (set_done (over_set lent slots) change)
set_history_more lent slots written journal pushed change other h is =
    let s = over_set lent slots in
    let now : over_set lent written ≡ set_done s change = over_set-write lent slots written (changed_item change) (is_added change) h in
    ap (λ t. journaled set_undone t pushed) now ∙ ap (journaled set_undone (set_done s change)) is
    ∙ journaled_more set_undone s (set_done s change) change journal (set_back s change other)

-- the latest change finds its item as it left it
pub newest_made : (s : Sets) (journal rest : List SetChange) (change : SetChange) → AreMade s journal → journal ≡ change ∷ rest
    → set.contains s (changed_item change) ≡ is_added change
newest_made s journal rest change made is = let all : AreMade s (change ∷ rest) = subst (AreMade s) is made in all.0

pub set_kept_less : (lent : Sets) (slots written : List (Item × Bool)) (size size_now : ℕ) (journal rest : List SetChange)
    (change : SetChange) → IsSetKept lent slots size journal
    → IsWritten slots written (changed_item change) (not (is_added change)) → size_now ≡ set.len (over_set lent written)
    → journal ≡ change ∷ rest → IsSetKept lent written size_now rest
set_kept_less lent slots written size size_now journal rest change kept h counted is =
    let s = over_set lent slots in
    let now : over_set lent written ≡ set_undone s change = over_set-write lent slots written (changed_item change)
    (not (is_added change)) h ∙ undone_is s change in
    let all : AreMade s (change ∷ rest) = subst (AreMade s) is kept.made in
    record {
      counted = counted;
      small = kept.small;
      touched = touched_less changed_item slots written (not (is_added change)) journal rest change h kept.touched is;
      made = subst (λ t. AreMade t rest) (sym now) all.1;
    }

pub set_history_less : (lent : Sets) (slots written : List (Item × Bool)) (journal rest : List SetChange) (change : SetChange)
    → IsWritten slots written (changed_item change) (not (is_added change)) → journal ≡ change ∷ rest
    → journaled set_undone (over_set lent written) rest ≡ undone (journaled set_undone (over_set lent slots) journal)
set_history_less lent slots written journal rest change h is =
    let s = over_set lent slots in
    let now : over_set lent written ≡ set_undone s change = over_set-write lent slots written (changed_item change)
    (not (is_added change)) h ∙ undone_is s change in
    ap (λ t. journaled set_undone t rest) now ∙ sym (ap (λ js. undone (journaled set_undone s js)) is)

-- ---- directories

-- the key before it was bound to something else, or freed
abbrev pub key_before : Directories → Item → DirectoryChange
key_before m k = record { key = k; before = map.get m k }

pub directory_history_more : (lent : Directories) (slots written : List (Item × Option Item)) (k : Item) (bound : Option Item)
    (journal pushed : List DirectoryChange)
    → IsWritten slots written k bound → pushed ≡ key_before (over_directory lent slots) k ∷ journal
    → journaled directory_undoing.undone (over_directory lent written) pushed ≡ changed
    (journaled directory_undoing.undone (over_directory lent slots) journal) (put_at (over_directory lent slots) k bound)
directory_history_more lent slots written k bound journal pushed h is =
    let m = over_directory lent slots in
    ap (λ t. journaled directory_undoing.undone t pushed) (over_directory-write lent slots written k bound h)
    ∙ ap (journaled directory_undoing.undone (put_at m k bound)) is
    ∙ journaled_more directory_undoing.undone m (put_at m k bound) (key_before m k) journal (put_before m k bound)

pub directory_history_less : (lent : Directories) (slots written : List (Item × Option Item)) (journal rest : List DirectoryChange)
    (change : DirectoryChange)
    → IsWritten slots written change.key change.before → journal ≡ change ∷ rest
    → journaled directory_undoing.undone (over_directory lent written) rest ≡ undone
    (journaled directory_undoing.undone (over_directory lent slots) journal)
directory_history_less lent slots written journal rest change h is =
    ap (λ t. journaled directory_undoing.undone t rest) (over_directory-write lent slots written change.key change.before h)
    ∙ sym (ap (λ js. undone (journaled directory_undoing.undone (over_directory lent slots) js)) is)

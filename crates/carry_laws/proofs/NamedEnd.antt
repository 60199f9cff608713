-- Objects end with items that have texts, where they start so and the transactions name no others.
use Rattle.std.proofs.Common.{◌≡◌, ◌∙◌, ap, inl, inr, ℕ, zero, suc, Bool, true, false, cond, List, [], ◌∷◌, ◌++◌, Option, Some, None}
use Rattle.std.proofs.Common.{refl, sym, subst, arith}
use Rattle.std.specs.Prelude.{slice_index_or}
use Rattle.objects.specs.Entries.{State, after_call, reply_at}
use Rattle.objects.specs.Objects.{kind_of_call, kind_of_value, value_after, value_reply}
use Rattle.objects.specs.declared.kind.Kind.TheVariants as kind
use Rattle.objects.proofs.KindLemmas.{one_kind}
use Rattle.objects.specs.declared.kind.Call.{Call}
use Rattle.objects.specs.declared.kind.Call.TheVariants as to
use Rattle.objects.specs.declared.kind.Reply.{Reply}
use Rattle.objects.specs.declared.kind.Value.{Value}
use Rattle.objects.specs.declared.kind.Value.TheVariants as value
use Rattle.vocabulary.proofs.Words.{amount_phrase, directory_items, item_phrase, item_reply, pair_phrase, queue_items, set_items}
use Rattle.meaning.specs.declared.end.End.TheVariants.{Ended, Aborted}
use Rattle.meaning.specs.declared.held.Held.{Held}
use Rattle.meaning.specs.Trees.{Block, NoStep, Steps, Step, Operation, Fill, If, Subaction, Abort, Parallel, Handlers, ForReason}
use Rattle.meaning.specs.Trees.{Otherwise, GoOn, Pass, Children, NoChild, Child}
use Rattle.meaning.specs.Labels.{holds, reply_item}
use Rattle.meaning.specs.declared.held.Held.TheVariants.{Replied, Outcome}
use Rattle.meaning.specs.declared.template.Argument.{Argument}
use Rattle.meaning.specs.declared.template.Argument.TheVariants.{Is, From}
use Rattle.meaning.specs.declared.template.Refusal.{Refusal}
use Rattle.meaning.specs.declared.template.Template.{Template}
use Rattle.meaning.specs.declared.template.Template.TheVariants.{Given, OfAmount, OfItem, OfPair}
use Rattle.meaning.specs.Filling.{amount_from, fill, held_reply, item_from, item_of, pair_of}
use Rattle.atoms.specs.declared.amount.Amount.{Amount}
use Rattle.atoms.specs.declared.item.Item.{Item}
use Rattle.atoms.specs.declared.queue.QueueCall.{QueueCall}
use Rattle.atoms.specs.declared.queue.QueueCall.TheVariants as queue
use Rattle.atoms.specs.declared.directory.DirectoryCall.{DirectoryCall}
use Rattle.atoms.specs.declared.directory.DirectoryCall.TheVariants as directory
use Rattle.atoms.specs.declared.directory.DirectoryReply.{DirectoryReply}
use Rattle.atoms.specs.declared.directory.DirectoryReply.TheVariants.{Bound, Taken as was_taken, Gone, Missing, Found}
use Rattle.atoms.specs.declared.queue.QueueReply.TheVariants.{Got}
use Rattle.atoms.specs.Directory.{Directories, directory_reply, found_or_missing}
use Rattle.atoms.specs.Queue.{queue_reply, front_of}
use Rattle.objects.specs.declared.kind.Reply.TheVariants as of
use Rattle.std.specs.FinMap as finite_map
use Rattle.std.specs.List.{All}
use Rattle.std.specs.Option.{ForSome, option_and_then}
use Rattle.std.specs.Prelude.{is_some, option_map}
use Rattle.vocabulary.specs.Words.{ItemsAre, amount_call, item_call, pair_call}
use Rattle.vocabulary.specs.declared.verb.AmountVerb.{AmountVerb}
use Rattle.vocabulary.specs.declared.verb.ItemVerb.{ItemVerb}
use Rattle.vocabulary.specs.declared.verb.PairVerb.{PairVerb}
use Rattle.meaning.specs.Records.{Taken, TakenChild, TakenChildren, TakenHandler, TakenStep}
use Rattle.meaning.specs.OneThread.{Execution, Ran, labels_of, state_of, label_if, operate, operate_made, operate_filled, choose, is_for}
use Rattle.meaning.specs.OneThread.{choose_handler, act}
use Rattle.meaning.specs.OneThread.{go_on, go_on_children, one, one_step}
use Rattle.meaning.specs.OneThread.{one_handler, one_children}
use Rattle.meaning.specs.Batch.{block_at, settled, state_at}
use Rattle.meaning.proofs.Keeping.{after_call_rest}
use Rattle.batch.specs.Named.{AllNamed, AllNamedValues, AreNamed, AreNamedHandlers, HasText, IsNamed, IsNamedArgument, IsNamedCall}
use Rattle.batch.specs.Named.{IsNamedStep, IsNamedTemplate, IsNamedValue}
use Rattle.batch.specs.Names.{Texts}

module _ (texts : Texts) where
  -- ---- one call

  value_named : (v : Value) (c : Call) → IsNamedValue texts v → IsNamedCall texts c → IsNamedValue texts (value_after v c)
  value_named (value.Set s) (to.Set c) had named = set_items (HasText texts) s c had named
  value_named (value.Queue q) (to.Queue c) had named = queue_items (HasText texts) q c had named
  value_named (value.Directory d) (to.Directory c) had named = directory_items (HasText texts) d c had named
  value_named v c had named = grind arith

  after_named : (state : State) (object : ℕ) (call : Call) → AllNamedValues texts state → IsNamedCall texts call
      → AllNamedValues texts (after_call state object call)
  after_named [] object call had named = tt
  after_named (v ∷ values) zero call had named = (value_named v call had.0 named, had.1)
  after_named (v ∷ values) (suc object) call had named = subst (AllNamedValues texts) (sym (after_call_rest v values object call))
      (had.0, after_named values object call had.1 named)

  -- ---- replies

  -- the item of a reply, if it has one, has a text
  abbrev IsNamedReply : Reply → Type 0
  IsNamedReply reply = ForSome (reply_item reply) (HasText texts)

  front_named : (q : List Item) → All (HasText texts) q → IsNamedReply (of.Queue (front_of q))
  front_named [] had x is = absurd cc
  front_named (first ∷ rest) had x is = let same : first ≡ x = cc in subst (HasText texts) same (had 0 first (omega arith))

  queue_named : (q : List Item) (c : QueueCall) → All (HasText texts) q → IsNamedReply (of.Queue (queue_reply q c))
  queue_named q (queue.Enq y) had = λ x is. absurd cc
  queue_named q queue.Deq had = front_named q had
  queue_named q queue.Length had = λ x is. absurd cc

  found_named : (found : Option Item) → ForSome found (HasText texts) → IsNamedReply (of.Directory (found_or_missing found))
  found_named None had x is = absurd cc
  found_named (Some value) had x is = had x is

  either_named : (b : Bool) (first second : DirectoryReply) → IsNamedReply (of.Directory first) → IsNamedReply (of.Directory second)
      → IsNamedReply (of.Directory (cond b first second))
  either_named true first second h k = h
  either_named false first second h k = k

  directory_named : (d : Directories) (c : DirectoryCall) → IsNamedValue texts (value.Directory d)
      → IsNamedReply (of.Directory (directory_reply d c))
  directory_named d (directory.Bind k v) had =
      either_named (is_some (finite_map.get d k)) was_taken Bound (λ x is. absurd cc) (λ x is. absurd cc)
  directory_named d (directory.Put k v) had = λ x is. absurd cc
  directory_named d (directory.Unbind k) had =
      either_named (is_some (finite_map.get d k)) Gone Missing (λ x is. absurd cc) (λ x is. absurd cc)
  directory_named d (directory.Lookup k) had = found_named (finite_map.get d k) (λ x is. (had k x is).1)

  -- an item that a queue gave, and one that a directory found
  got_named : (v : Value) (c : Call) (x : Item) → IsNamedValue texts v → value_reply v c ≡ Some (of.Queue (Got x))
      → kind.Queue ≡ kind_of_value v → kind_of_call c ≡ kind_of_value v → HasText texts x
  got_named (value.Queue q) (to.Queue c) x had is of_kind calls =
      let same : of.Queue (queue_reply q c) ≡ of.Queue (Got x) = cc in queue_named q c had x (ap reply_item same)
  got_named v c x had is of_kind calls = absurd cc

  lookup_named : (v : Value) (c : Call) (x : Item) → IsNamedValue texts v → value_reply v c ≡ Some (of.Directory (Found x))
      → kind.Directory ≡ kind_of_value v → kind_of_call c ≡ kind_of_value v → HasText texts x
  lookup_named (value.Directory d) (to.Directory c) x had is of_kind calls =
      let same : of.Directory (directory_reply d c) ≡ of.Directory (Found x) = cc in directory_named d c had x (ap reply_item same)
  lookup_named v c x had is of_kind calls = absurd cc

  reply_named : (v : Value) (c : Call) (reply : Reply) → IsNamedValue texts v → value_reply v c ≡ Some reply → IsNamedReply reply
  reply_named v c reply had is x some = elim (item_reply reply x some) [
    | inl got ↦ let one = one_kind v c (of.Queue (Got x)) (is ∙ ap Some got) in
        got_named v c x had (is ∙ ap Some got) one.reply one.call
    | inr found ↦ let one = one_kind v c (of.Directory (Found x)) (is ∙ ap Some found) in
        lookup_named v c x had (is ∙ ap Some found) one.reply one.call
  ]

  reply_at_named : (state : State) (object : ℕ) (call : Call) (reply : Reply) → AllNamedValues texts state
      → reply_at state object call ≡ Some reply → IsNamedReply reply
  reply_at_named [] object call reply had is = absurd cc
  reply_at_named (v ∷ values) zero call reply had is = reply_named v call reply had.0 is
  reply_at_named (v ∷ values) (suc object) call reply had is = reply_at_named values object call reply had.1 is

  -- ---- labels, and the calls that are made with them

  abbrev IsNamedLabel : Held → Type 0
  IsNamedLabel held = ForSome (option_and_then reply_item (held_reply held)) (HasText texts)

  abbrev AreNamedLabels : List Held → Type 0
  AreNamedLabels [] = Unit {0}
  AreNamedLabels (held ∷ others) = IsNamedLabel held × AreNamedLabels others

  more_named : (held more : List Held) → AreNamedLabels held → AreNamedLabels more → AreNamedLabels (held ++ more)
  more_named [] more h k = k
  more_named (first ∷ held) more h k = (h.0, more_named held more h.1 k)

  label_named : (labelled : Bool) (held : Held) → IsNamedLabel held → AreNamedLabels (label_if labelled held)
  label_named true held h = (h, tt)
  label_named false held h = tt

  item_named : (labels : List Held) (label : ℕ) → AreNamedLabels labels → ForSome (item_from labels label) (HasText texts)
  item_named [] label had = λ x is. absurd cc
  item_named (first ∷ labels) zero had = had.0
  item_named (first ∷ labels) (suc label) had = item_named labels label had.1

  argument_named : (labels : List Held) (a : Argument) → AreNamedLabels labels → IsNamedArgument texts a
      → ForSome (item_of labels a) (HasText texts)
  argument_named labels (Is y) had named = λ x is. let same : y ≡ x = cc in subst (HasText texts) same named
  argument_named labels (From label) had named = item_named labels label had

  amount_made : (v : AmountVerb) (a : Option Amount) (call : Call) → option_map (amount_call v) a ≡ Some call → IsNamedCall texts call
  amount_made v None call is = absurd cc
  amount_made v (Some a) call is =
      let same : amount_call v a ≡ call = cc in
      subst (IsNamedCall texts) same (subst (ItemsAre (HasText texts)) (sym (amount_phrase v a)) tt)

  item_made : (v : ItemVerb) (x : Option Item) (call : Call) → ForSome x (HasText texts) → option_map (item_call v) x ≡ Some call
      → IsNamedCall texts call
  item_made v None call named is = absurd cc
  item_made v (Some x) call named is =
      let same : item_call v x ≡ call = cc in
      subst (IsNamedCall texts) same (subst (ItemsAre (HasText texts)) (sym (item_phrase v x)) (named x refl))

  pair_made : (v : PairVerb) (k x : Option Item) (call : Call) → ForSome k (HasText texts) → ForSome x (HasText texts)
      → pair_of v k x ≡ Some call → IsNamedCall texts call
  pair_made v None x call key named is = absurd cc
  pair_made v (Some k) None call key named is = absurd cc
  pair_made v (Some k) (Some x) call key named is =
      let same : pair_call v k x ≡ call = cc in
      subst (IsNamedCall texts) same (subst (ItemsAre (HasText texts)) (sym (pair_phrase v k x)) (key k refl, named x refl))

  call_made : (labels : List Held) (template : Template) → AreNamedLabels labels → IsNamedTemplate texts template
      → ForSome (fill labels template) (IsNamedCall texts)
  call_made labels (Given given_call) had named call is =
      let same : given_call ≡ call = cc in subst (IsNamedCall texts) same named
  call_made labels (OfAmount v label) had named call is = amount_made v (amount_from labels label) call is
  call_made labels (OfItem v label) had named call is = item_made v (item_from labels label) call (item_named labels label had) is
  call_made labels (OfPair v key item) had named call is =
      pair_made v (item_of labels key) (item_of labels item) call (argument_named labels key had named.0)
      (argument_named labels item had named.1) is

  -- ---- a run

  -- the objects that it leaves, and the labels that it adds
  abbrev EndsNamed : {A : Type 0} → Execution A → Type 0
  EndsNamed run = AllNamedValues texts (state_of run) × AreNamedLabels (labels_of run)

  operation_named : (object : ℕ) (call : Call) (labelled : Bool) (state : State) (reply : Option Reply) → reply_at state object call ≡ reply
      → AllNamedValues texts state → IsNamedCall texts call → EndsNamed (operate object call labelled state reply)
  operation_named object call labelled state None is had named = (had, tt)
  operation_named object call labelled state (Some reply) is had named = (
    after_named state object call had named,
    label_named labelled (Replied reply) (reply_at_named state object call reply had is),
  )

  made_named : (object : ℕ) (call : Call) (labelled : Bool) (refusal : Refusal) (state : State) (reply : Option Reply)
      → reply_at state object call ≡ reply → AllNamedValues texts state → IsNamedCall texts call
      → EndsNamed (operate_made object call labelled refusal state reply)
  made_named object call labelled refusal state None is had named = (had, tt)
  made_named object call labelled refusal state (Some reply) is had named = (
    after_named state object call had named,
    label_named labelled (Replied reply) (reply_at_named state object call reply had is),
  )

  filled_named : (object : ℕ) (labelled : Bool) (refusal : Refusal) (state : State) (call : Option Call) → AllNamedValues texts state
      → ForSome call (IsNamedCall texts) → EndsNamed (operate_filled object labelled refusal state call)
  filled_named object labelled refusal state None had named = (had, tt)
  filled_named object labelled refusal state (Some call) had named =
      made_named object call labelled refusal state (reply_at state object call) refl had (named call refl)

  choice_named : (test : Bool) (then else : State → Execution Taken) (state : State) → EndsNamed (then state) → EndsNamed (else state)
      → EndsNamed (choose test then else state)
  choice_named true then else state first second = (first.0, tt)
  choice_named false then else state first second = (second.0, tt)

  handler_choice_named : (test : Bool) (handler : State → Execution Taken) (others : State → Execution TakenHandler) (state : State)
      → EndsNamed (handler state) → EndsNamed (others state) → EndsNamed (choose_handler test handler others state)
  handler_choice_named true handler others state first second = (first.0, tt)
  handler_choice_named false handler others state first second = second

  act_named : (labelled : Bool) (body : Execution Taken) (handlers : Option ℕ → State → Execution TakenHandler) (state : State)
      → EndsNamed body → ((reason : Option ℕ) → EndsNamed (handlers reason state)) → EndsNamed (act labelled body handlers state)
  act_named labelled (Ran body Ended labels after_body) handlers state first second =
      (first.0, label_named labelled (Outcome Ended) (λ x none. absurd cc))
  act_named labelled (Ran body (Aborted reason) labels after_body) handlers state first second =
      ((second reason).0, label_named labelled (Outcome (Aborted reason)) (λ x none. absurd cc))

  go_on_named : (step : Execution TakenStep) (rest : List Held → State → Execution Taken) → EndsNamed step
      → ((labels : List Held) (mid : State) → AllNamedValues texts mid → AreNamedLabels labels → EndsNamed (rest labels mid))
      → EndsNamed (go_on step rest)
  go_on_named (Ran step Ended labels mid) rest first second = ((second labels mid first.0 first.1).0, tt)
  go_on_named (Ran step (Aborted reason) labels mid) rest first second = (first.0, tt)

  go_on_children_named : (child : Execution TakenChild) (younger : State → Execution TakenChildren) → EndsNamed child
      → ((mid : State) → AllNamedValues texts mid → EndsNamed (younger mid)) → EndsNamed (go_on_children child younger)
  go_on_children_named (Ran child Ended labels mid) younger first second =
      let others = second mid first.0 in (others.0, more_named labels _ first.1 others.1)
  go_on_children_named (Ran child (Aborted reason) labels mid) younger first second = (first.0, tt)

  mutual
    unfolding one

    block_named : (block : Block) (labels : List Held) (state : State) → IsNamed texts block → AllNamedValues texts state
        → AreNamedLabels labels → EndsNamed (one block labels state)
    block_named NoStep labels state named had held = (had, tt)
    block_named (Steps step rest) labels state named had held =
        go_on_named (one_step step labels state) (λ added mid. one rest (labels ++ added) mid)
        (step_named step labels state named.0 had held)
        (λ added mid had_there held_there. block_named rest (labels ++ added) mid named.1 had_there
        (more_named labels added held held_there))

    step_named : (step : Step) (labels : List Held) (state : State) → IsNamedStep texts step → AllNamedValues texts state
        → AreNamedLabels labels → EndsNamed (one_step step labels state)
    step_named (Operation object call labelled) labels state named had held =
        operation_named object call labelled state (reply_at state object call) refl had named
    step_named (Fill object template labelled refusal) labels state named had held =
        filled_named object labelled refusal state (fill labels template) had (call_made labels template held named.0)
    step_named (If label test then else) labels state named had held =
        choice_named (holds labels label test) (one then labels) (one else labels) state (block_named then labels state named.1 had held)
        (block_named else labels state named.2 had held)
    step_named (Subaction body handlers labelled) labels state named had held =
        act_named labelled (one body labels state) (one_handler handlers labels) state (block_named body labels state named.0 had held)
        (λ reason. handler_named handlers labels reason state named.1 had held)
    step_named (Abort reason) labels state named had held = (had, tt)
    step_named (Parallel children) labels state named had held = children_named children labels state named had held

    handler_named : (handlers : Handlers) (labels : List Held) (reason : Option ℕ) (state : State) → AreNamedHandlers texts handlers
        → AllNamedValues texts state → AreNamedLabels labels → EndsNamed (one_handler handlers labels reason state)
    handler_named (ForReason reason handler others) labels aborted state named had held =
        handler_choice_named (is_for reason aborted) (one handler labels) (one_handler others labels aborted) state
        (block_named handler labels state named.1 had held) (handler_named others labels aborted state named.2 had held)
    handler_named (Otherwise handler) labels aborted state named had held = ((block_named handler labels state named had held).0, tt)
    handler_named GoOn labels aborted state named had held = (had, tt)
    handler_named Pass labels aborted state named had held = (had, tt)

    children_named : (children : Children) (labels : List Held) (state : State) → AreNamed texts children → AllNamedValues texts state
        → AreNamedLabels labels → EndsNamed (one_children children labels state)
    children_named NoChild labels state named had held = (had, tt)
    children_named (Child body handlers labelled younger) labels state named had held =
        go_on_children_named (act labelled (one body labels state) (one_handler handlers labels) state) (one_children younger labels)
        (act_named labelled (one body labels state) (one_handler handlers labels) state (block_named body labels state named.0 had held)
        (λ reason. handler_named handlers labels reason state named.1 had held))
        (λ mid had_there. children_named younger labels mid named.2 had_there held)

  -- ---- a batch

  settled_named : (before : State) (run : Execution Taken) → AllNamedValues texts before → EndsNamed run
      → AllNamedValues texts (settled before run)
  settled_named before (Ran taken Ended labels state) had ends = ends.0
  settled_named before (Ran taken (Aborted reason) labels state) had ends = had

  block_at_named : (batch : List Block) (b : ℕ) → AllNamed texts batch → IsNamed texts (slice_index_or batch b NoStep)
  block_at_named [] b named = tt
  block_at_named (block ∷ blocks) zero named = named.0
  block_at_named (block ∷ blocks) (suc b) named = block_at_named blocks b named.1

  pub end_named : (start : State) (batch : List Block) (b : ℕ) → AllNamedValues texts start → AllNamed texts batch
      → AllNamedValues texts (state_at start batch b)
  unfolding state_at
  end_named start batch zero had named = had
  end_named start batch (suc b) had named =
      let before = state_at start batch b in
      let earlier = end_named start batch b had named in
      settled_named before (one (block_at batch b) [] before) earlier
      (block_named (block_at batch b) [] before (block_at_named batch b named) earlier tt)

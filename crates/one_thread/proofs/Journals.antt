-- The journal of objects leads back.
use Rattle.std.proofs.Common.{◌≡◌, ℕ, length}
use Rattle.atoms.proofs.Journals as journals
use Rattle.objects.specs.Objects.{objects, objects_undoing}
use Rattle.objects.proofs.KindLemmas.{objects_take_back}
use Rattle.objects.specs.declared.kind.Call.{Call}
use Rattle.one_thread.specs.Journaled.{Journaled, performed, rewound, LeadsBack}

pub leads_back-same : (j : Journaled) → LeadsBack j j
leads_back-same j = journals.leads_back-same objects_undoing j

pub leads_back-then : (first second third : Journaled) → LeadsBack first second → LeadsBack second third → LeadsBack first third
leads_back-then first second third h k = journals.leads_back-then objects_undoing first second third h k

pub leads_back-performed : (j : Journaled) (object : ℕ) (call : Call) → LeadsBack j (performed j object call)
leads_back-performed j object call = journals.leads_back-performed objects objects_undoing objects_take_back j (object, call)

pub rewound-back : (before now : Journaled) → LeadsBack before now → rewound now (length before.journal) ≡ before
rewound-back before now h = journals.rewound-back objects_undoing before now h

-- The law of carrying over.
use Rattle.std.proofs.Common.{◌≤◌, length, refl, subst}
use Rattle.serde_json.specs.Data.{no_items}
use Rattle.doc_rules.specs.Limits.{limits_of}
use Rattle.doc_tree.specs.Spelled.{document_in}
use Rattle.carry.specs.Carried.{carried_text}
use Rattle.carry_laws.specs.CarriedData.{carried_data, objects_data}
use Rattle.carry_laws.specs.Carrying.{object_names}
use Rattle.carry_laws.specs.Laws.{CarriedLaw}
use Rattle.carry_laws.proofs.Carriable.{all_apart, all_writable}
use Rattle.carry_laws.proofs.CarriedDocument.{document_spelled}
use Rattle.carry_laws.proofs.CarriedFaultless.{carried_faultless}
use Rattle.carry_laws.proofs.CarriedReads.{carried_value}
use Rattle.carry_laws.proofs.NamedTexts.{distinct_apart}
use Rattle.carry_laws.proofs.TextLength.{carried_length}
use Rattle.carry_laws.proofs.Versions.{is_version}
use Rattle.doc_tokens.proofs.PulledDocument.{version_is}
use Rattle.lang.proofs.SpelledLemmas.{reads_as}

pub carried_is_read : CarriedLaw
carried_is_read version names values carried c =
    let text = carried_text version names values in
    let d = carried_data version names values in
    let known = is_version version carried in
    let ok = all_writable names version 0 0 values c.fit c.objects_named c.items_named in
    let apart = all_apart names values c.items_apart in
    let differ = distinct_apart (object_names names 0 values) c.objects_apart in
    let faultless = carried_faultless version carried names values c.few c.fit ok apart differ in
    let short = subst (λ v. length text ≤ (limits_of v).bytes)
    (version_is version (objects_data names 0 values) no_items known.0 known.1)
    (carried_length version carried names values c.few c.fit ok) in (
      document_in d,
      reads_as text d (document_in d) short (carried_value names version carried.1 values ok) faultless refl,
      document_spelled version carried names values c.fit apart,
    )

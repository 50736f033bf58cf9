-- The handler lists each annotation and returns `None`. It keeps its reference to the list.
use Rattle.ixdtf_c.proofs.narrow_annotations.list_as.Goals as goal
use Rattle.std.proofs.Common.{rules, ◌∙◌, ◌-◌, ◌^◌}
use Rattle.ixdtf_c.specs.Narrow.{annotation_by, annotation_for}
use Rattle.ixdtf_c.proofs.Listed.{lists_left, lists_units}

pub returns : goal.returns
returns g c = let (loan, slots, listing) = lists_units c.read_lending_handler.ensures.handles _ (c.with_profile-parser.ensures.rest ∙ c.new.ensures.rest)
    annotation_by (λ state. state.0.ghost_name) (λ state. state.0.now.slots.ghost_name) (λ state. state.0.now.count) (λ state. state.0.now.slots.now) (2 ^ 64 - 1) (search rules) c.requires
    (λ state annotation reply next stepped. (search rules, search rules, annotation_for annotation, search rules, search rules)) (λ state annotation reply next stepped. (search rules, search rules)) in
    record { same_slots = search (rules, loan, slots); lists = rw (← c.with_profile-parser.ensures.profile) (lists_left (search (rules, loan)) (search (rules, loan)) listing) }

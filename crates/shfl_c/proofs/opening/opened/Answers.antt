use Rattle.std.proofs.Common.{subst}
use Rattle.shfl_line.specs.declared.events.Form.{Form}
use Rattle.shfl_ticket.specs.Tickets.{AreOpened}
use Rattle.boxed_handle.proofs.Boxes.{each-boxed, ok-more}
use Rattle.shfl_c.proofs.opening.opened.Goals as goal

pub returns : goal.returns
returns c = let tickets = c.in_ok-tickets.tickets.items in ok-more c.handles_of.result (λ v own. record {
  tickets = tickets;
  opened = subst (λ (f : Form). AreOpened (record { limit = c.args.limit; form = f }) c.args.attrs.now tickets) c.form_numbered.ensures c.in_ok-tickets.ensures;
  each = each-boxed _ c.in_ok-boxed_each.field-0.items tickets _ c.in_ok-boxed_each.ensures own;
}) c.handles_of.ensures

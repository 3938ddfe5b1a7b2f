-- `nearest::listed::check_nodes` meets its contract. Assumes nothing.
use Rattle.std.proofs.Common.{ap, cond, leb, rules, sym, ◌∙◌}
use Rattle.std.proofs.lemmas.Iterator.{YieldsList-from_slice}
use Rattle.std.proofs.lemmas.Iterator.Search.{any_from_yields_List}
use borrow.Author.Tests.{tests}
use Rattle.state.proofs.RefusalLaws.{passed_node, refused_node}
use Rattle.nearest.proofs.ListedLaws.{numbers_any}
use Rattle.nearest.proofs.listed.check_nodes.Goals as goal
use Rattle.nearest.proofs.listed.check_nodes.Goals.{then-n-p-via-then-n-p, then-n-p-via-else-n-p+then-any}

pub returns-then-n-p : goal.returns-then-n-p
returns-then-n-p c = elim c.then-n-p.branch [
  | then-n-p-via-then-n-p w ↦ sym (refused_node _ _ _ w.if-n-p.true)
  | then-n-p-via-else-n-p+then-any w ↦
      let any = any_from_yields_List (leb c.args.n) _ _ w.any.result w.any.ensures.ran (YieldsList-from_slice c.args.listed.now cc) (λ x b q k. search (rules, tests)) in
      sym (passed_node _ _ _ w.if-n-p.false ∙ numbers_any c.args.n c.args.listed.now ∙ ap (λ b. cond b 4 0) (sym any ∙ w.if-any.true))
]

pub returns : goal.returns
returns c =
    let any = any_from_yields_List (leb c.args.n) _ _ c.any.result c.any.ensures.ran (YieldsList-from_slice c.args.listed.now cc) (λ x b q k. search (rules, tests)) in
    sym (passed_node _ _ _ c.if-n-p.false ∙ numbers_any c.args.n c.args.listed.now ∙ ap (λ b. cond b 4 0) (sym any ∙ c.if-any.false))

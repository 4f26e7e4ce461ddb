use Rattle.board_service.proofs.domain_core.DomainCore.open.Goals as goal

pub returns-in-Ok-clause-held : goal.returns-in-Ok-clause-held
returns-in-Ok-clause-held g c = c.in-Ok.ensures.held _ c.in_default.ensures.alike

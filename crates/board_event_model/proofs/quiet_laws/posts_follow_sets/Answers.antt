use Rattle.board_event_model.proofs.PostLemmas.{post_law_holds}
use Rattle.board_event_model.proofs.quiet_laws.posts_follow_sets.Goals as goal

pub returns : goal.returns
returns c = post_law_holds

-- Each line of a lawful session keeps a sound state sound.
use Rattle.std.proofs.Common.{◌≡◌, ℕ, arith, List, [], ◌∷◌, refl, ap, Option, Some, None}
use Rattle.std.specs.Prelude.{if◌then◌else◌}
use Rattle.board_cell_model.specs.declared.access.Access.{Access}
use Rattle.board_model.specs.declared.answer.Answer.{Answer}
use Rattle.board_model.specs.declared.answer.Answer.TheVariants as answer
use Rattle.board_model.specs.declared.answer.Reason.{Reason}
use Rattle.board_model.specs.declared.answer.Reason.TheVariants as reason
use Rattle.board_model.specs.declared.answer.Reply.{Reply}
use Rattle.board_model.specs.declared.line.Call.{Call}
use Rattle.board_model.specs.declared.line.Line.{Line}
use Rattle.board_model.specs.declared.line.Line.TheVariants as line
use Rattle.board_model.specs.Things.{is_held}
use Rattle.board_model.specs.Requests.{request_of}
use Rattle.board_model.specs.Memory.{IsStanding}
use Rattle.board_model.specs.Parties.{Party, begun, free, gone, running, with_party}
use Rattle.board_model.specs.LawfulSession.{IsLawful, IsLawfulFrom, IsOwedStep, IsReasoned, IsRight, IsToldStep, Session, State, after, after_step, call_reason, free_reason, start, state_after, step_reason}
use Rattle.board_model.specs.Sound.{IsParty, Sound, is_suspended}
use Rattle.board_model.proofs.TableLemmas.{valued_sound}
use Rattle.board_model.proofs.DropLemmas.{drop_sound}
use Rattle.board_model.proofs.StepLemmas.{call_step}
use Rattle.board_model.proofs.BeginLemmas.{begun_party}

module _ (s : State) (sound : Sound s) (party : List ℕ) where
  begin_sound : (c : Call) (x : Party) → s.parties party ≡ x → (o : Option Reason) → call_reason s.standing party c (request_of s.standing s.published party c) ≡ o → IsReasoned (free_reason x o) answer.Begun
      → Sound (record s { parties = with_party s.parties party (begun (request_of s.standing s.published party c)) })
  begin_sound c free fr None e h = valued_sound s party (begun (request_of s.standing s.published party c)) s.standing.values sound (λ n i _. ap (λ (y : Party). is_suspended y n i) fr) (begun_party s sound party fr c e)
  begin_sound c free fr (Some why) e h = absurd cc
  begin_sound c (running r) fr o e h = absurd cc
  begin_sound c gone fr o e h = absurd cc

  step_sound : (x : Party) → s.parties party ≡ x → IsParty s party x → (a : Access) (told : Option Reply) → (step_reason x ≡ None → IsOwedStep x (answer.Step a told)) → (step_reason x ≡ None → IsStanding s.memory a) → (step_reason x ≡ None → IsToldStep s party x (answer.Step a told))
      → Sound (after_step s party x a told)
  step_sound free run h a told next word reply = sound
  step_sound (running r) run h a told next word reply =
      let t = reply refl in
      call_step s sound party r.request r.so_far r.passed a told run (record { next = next refl; word = word refl; last = t.last; reply = t.reply }) h
  step_sound gone run h a told next word reply = sound

  release_sound : (name : List ℕ) (a : Access) (told : Option Reply) (x : Party) → s.parties party ≡ x → (o : Option Reason) → IsReasoned (free_reason x o) (answer.Step a told) → Sound (after s (line.Release party name) (answer.Step a told))
  release_sound name a told free fr o h = drop_sound s party name sound fr
  release_sound name a told (running r) fr o h = absurd cc
  release_sound name a told gone fr o h = absurd cc

pub sound_after : (s : State) (l : Line) (a : Answer) → IsRight s l a → Sound s → Sound (after s l a)
sound_after s (line.Begin party c) answer.Begun r h = begin_sound s h party c (s.parties party) refl (call_reason s.standing party c (request_of s.standing s.published party c)) refl r.reason
sound_after s (line.Begin party c) (answer.Refused why) r h = h
sound_after s (line.Begin party c) (answer.Step a told) r h = h
sound_after s (line.Begin party c) answer.Gone r h = h
sound_after s (line.Begin party c) (answer.Words ws) r h = h
sound_after s (line.Step party) answer.Begun r h = h
sound_after s (line.Step party) (answer.Refused why) r h = h
sound_after s (line.Step party) (answer.Step a told) r h = step_sound s h party (s.parties party) refl (h.parties party) a told r.owed r.word r.reply
sound_after s (line.Step party) answer.Gone r h = h
sound_after s (line.Step party) (answer.Words ws) r h = h
sound_after s (line.Release party name) answer.Begun r h = h
sound_after s (line.Release party name) (answer.Refused why) r h = h
sound_after s (line.Release party name) (answer.Step a told) r h = release_sound s h party name a told (s.parties party) refl (if is_held s.standing party name then None else Some reason.Unknown) r.reason
sound_after s (line.Release party name) answer.Gone r h = h
sound_after s (line.Release party name) (answer.Words ws) r h = h
sound_after s (line.Abandon party) answer.Begun r h = h
sound_after s (line.Abandon party) (answer.Refused why) r h = h
sound_after s (line.Abandon party) (answer.Step a told) r h = h
sound_after s (line.Abandon party) answer.Gone r h = valued_sound s party gone s.standing.values h (λ n i e. absurd cc) tt
sound_after s (line.Abandon party) (answer.Words ws) r h = h
sound_after s (line.Words b) answer.Begun r h = h
sound_after s (line.Words b) (answer.Refused why) r h = h
sound_after s (line.Words b) (answer.Step a told) r h = h
sound_after s (line.Words b) answer.Gone r h = h
sound_after s (line.Words b) (answer.Words ws) r h = h

pub sound_start : Sound start
sound_start = record {
  boards = record {
    numbered = λ n b e. absurd cc;
    single = λ n. omega arith;
    named = λ name. omega arith;
    keyed = λ n b e. absurd cc;
    unused = λ n i lt. refl;
    typed = λ n i e h. absurd cc;
    cells = λ n i e h. absurd cc;
    apart = λ n i j e f h. absurd cc;
    placed = λ n i e h. absurd cc;
    short = λ n i e h. absurd cc;
  };
  things = record { handles = λ n i. omega arith; standing = tt; entries = tt; loans = λ p n ws e. absurd cc };
  parties = λ p. tt;
}

-- so every lawful session leads to a sound state
pub sound_from : (s : State) (pairs : Session) → Sound s → IsLawfulFrom s pairs → Sound (state_after s pairs)
sound_from s [] h l = h
sound_from s (p ∷ ps) h l = sound_from (after s p.0 p.1) ps (sound_after s p.0 p.1 l.0 h) l.1

pub sound_session : (pairs : Session) → IsLawful pairs → Sound (state_after start pairs)
sound_session pairs l = sound_from start pairs sound_start l

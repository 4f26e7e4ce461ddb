-- Lists that only grow.
use Rattle.std.proofs.Common.{◌≡◌, ℕ, ◌+◌, ◌≤◌, Bool, true, false, cond, List, [], ◌∷◌, ◌++◌, length, map, arith, refl, sym, ap, subst, ◌∙◌, Option, Some, None, append_assoc}
use Rattle.std.specs.Prelude.{◌==◌, ◌&&◌, if◌then◌else◌}
use Rattle.std.proofs.lemmas.Bool.{eqb-true, eqb-false, eq-eqb, ne_eqb}
use Rattle.std.proofs.lemmas.List.{append-nil, length-append}
use Rattle.board_cell_model.specs.declared.access.Access.{Access}
use Rattle.board_model.specs.declared.answer.Answer.{Answer}
use Rattle.board_model.specs.declared.answer.Answer.TheVariants as answer
use Rattle.board_model.specs.declared.answer.Reply.{Reply}
use Rattle.board_model.specs.declared.answer.Reply.TheVariants as reply
use Rattle.board_model.specs.declared.attributes.Attribute.{Attribute}
use Rattle.board_names.specs.declared.errors.boards.BlackboardCreateError.{BlackboardCreateError}
use Rattle.board_model.specs.declared.line.Line.{Line}
use Rattle.board_model.specs.declared.line.Line.TheVariants as line
use Rattle.board_model.specs.declared.tables.NewLimits.{NewLimits}
use Rattle.board_model.specs.declared.value.AddedEntry.{AddedEntry}
use Rattle.board_model.specs.declared.value.KeyType.{KeyType}
use Rattle.board_model.specs.TypeTable.{key_detail, same_key, value_words}
use Rattle.board_model.specs.TableCalls.{asked, create_refusals, created, first_of}
use Rattle.board_model.specs.Requests.{Published, Request, create, info, entry, entry_mut, fill, fresh, get, discard, id, open_, loan, keys, nodes, publish, put, reader, table, gen, update, writer}
use Rattle.board_model.specs.Replies.{added_of, ask, lists_after, number_or, word_put}
use Rattle.board_model.specs.Parties.{Party, free, gone, running}
use Rattle.board_model.specs.LawfulSession.{IsLawfulFrom, IsRight, Session, State, after, after_step, state_after, stepped}
use Rattle.board_model.specs.Sound.{BoardTables}
use Rattle.board_model.specs.LawsOfSessions.{is_publication, publishes_entry, publishes_by, publications_in}
use Rattle.board_model.proofs.DrawLemmas.{drawn_ask, drawn_drop}
use Rattle.board_model.proofs.LineCases.{step_of}

-- ---- one call

-- what stands in a list stays
pub record IsGrowth (s new : State) (b i n : ℕ) : Type 0 where
  pub drawn : s.standing.tables.last_board ≤ new.standing.tables.last_board
  pub more : List (List ℕ)
  pub list : new.published b i ≡ s.published b i ++ more
  pub count : length more ≡ n

pub growth_none : (s new : State) (b i : ℕ) → s.standing.tables.last_board ≤ new.standing.tables.last_board → new.published b i ≡ s.published b i → IsGrowth s new b i 0
growth_none s new b i h e = record { drawn = h; more = []; list = e ∙ sym (append-nil (s.published b i)); count = refl }

opened_elsewhere : (lists : Published) (t new : BoardTables) (f name : List ℕ) (k : KeyType) (limits : NewLimits) (attributes : List Attribute) (entries : List AddedEntry) (b i : ℕ) → b ≤ t.last_board → (o : Option BlackboardCreateError)
    → lists_after lists (table (create f name k limits attributes entries)) (number_or reply.CreateError (asked o (t.last_board + 1) new t).0) b i ≡ lists b i
opened_elsewhere lists t new f name k limits attributes entries b i le (Some e) = refl
opened_elsewhere lists t new f name k limits attributes entries b i le None =
    let e : (b == t.last_board + 1) ≡ false = ne_eqb b (t.last_board + 1) (λ q. absurd (omega arith)) in
    rw e refl

publish_growth : (s new : State) (b i c j : ℕ) (v : List ℕ) → s.standing.tables.last_board ≤ new.standing.tables.last_board → (y z : Bool) → new.published b i ≡ cond (y && z) (s.published c j ++ v ∷ []) (s.published b i) → (y ≡ true → b ≡ c) → (z ≡ true → i ≡ j) → IsGrowth s new b i (cond (y && z) 1 0)
publish_growth s new b i c j v t true true e p q = record {
  drawn = t;
  more = v ∷ [];
  list = e ∙ ap (λ (n : ℕ). s.published n j ++ v ∷ []) (sym (p refl)) ∙ ap (λ (n : ℕ). s.published b n ++ v ∷ []) (sym (q refl));
  count = refl;
}
publish_growth s new b i c j v t true false e p q = growth_none s new b i t e
publish_growth s new b i c j v t false z e p q = growth_none s new b i t e

same_test : (x y : ℕ) → (x == y) ≡ (y == x)
same_test x y = at (x == y) (eqb-true x y) (eqb-false x y)
  where
    at : (z : Bool) → (z ≡ true → x ≡ y) → (z ≡ false → x ≡ y → ⊥) → z ≡ (y == x)
    at true t f = sym (eq-eqb y x (sym (t refl)))
    at false t f = sym (ne_eqb y x (λ e. f refl (sym e)))

-- of an update, publish or fill of these words in entry j of board c
entry_growth : (s new : State) (b i c j : ℕ) (v : List ℕ) → s.standing.tables.last_board ≤ new.standing.tables.last_board → new.published b i ≡ cond ((b == c) && (i == j)) (s.published c j ++ v ∷ []) (s.published b i) → IsGrowth s new b i (cond ((c == b) && (j == i)) 1 0)
entry_growth s new b i c j v t e =
    subst (λ (n : ℕ). IsGrowth s new b i n) (ap (λ (x : Bool). cond x 1 0) (ap (λ (x : Bool). x && (i == j)) (same_test b c) ∙ ap (λ (x : Bool). (c == b) && x) (same_test i j)))
    (publish_growth s new b i c j v t (b == c) (i == j) e (eqb-true b c) (eqb-true i j))

told_growth : (s : State) (party : List ℕ) (q : Request) (so_far : List Access) (passed : ℕ) (a : Access) (t : Reply) (b i : ℕ) → b ≤ s.standing.tables.last_board → t ≡ (ask s.standing s.published party q).reply
    → IsGrowth s (stepped s party (record { request = q; so_far = so_far; passed = passed }) a (Some t)) b i (if is_publication q b i then 1 else 0)
told_growth s party q so_far passed a t b i le e = at q e (drawn_ask s.standing s.published party q).board_low
  where
    at : (q : Request) → t ≡ (ask s.standing s.published party q).reply → s.standing.tables.last_board ≤ (ask s.standing s.published party q).standing.tables.last_board
        → IsGrowth s (stepped s party (record { request = q; so_far = so_far; passed = passed }) a (Some t)) b i (if is_publication q b i then 1 else 0)
    at (table (create f name k limits attributes entries)) e d =
        growth_none s (stepped s party (record { request = table (create f name k limits attributes entries); so_far = so_far; passed = passed }) a (Some t)) b i d
        (ap (λ (x : Reply). lists_after s.published (table (create f name k limits attributes entries)) x b i) e
        ∙ opened_elsewhere s.published s.standing.tables (created s.standing.tables party f name (key_detail k) limits attributes (map added_of entries)) f name k limits attributes entries b i le
        (first_of (create_refusals (same_key k) s.standing.tables.boards name (map added_of entries))))
    at (table (open_ f name k limits needs)) e d = growth_none s (stepped s party (record { request = table (open_ f name k limits needs); so_far = so_far; passed = passed }) a (Some t)) b i d refl
    at (table (reader name x)) e d = growth_none s (stepped s party (record { request = table (reader name x); so_far = so_far; passed = passed }) a (Some t)) b i d refl
    at (table (writer name x)) e d = growth_none s (stepped s party (record { request = table (writer name x); so_far = so_far; passed = passed }) a (Some t)) b i d refl
    at (table (entry name x k type)) e d = growth_none s (stepped s party (record { request = table (entry name x k type); so_far = so_far; passed = passed }) a (Some t)) b i d refl
    at (table (entry_mut name x k type)) e d = growth_none s (stepped s party (record { request = table (entry_mut name x k type); so_far = so_far; passed = passed }) a (Some t)) b i d refl
    at (table (loan l)) e d = growth_none s (stepped s party (record { request = table (loan l); so_far = so_far; passed = passed }) a (Some t)) b i d refl
    at (table (discard l)) e d = growth_none s (stepped s party (record { request = table (discard l); so_far = so_far; passed = passed }) a (Some t)) b i d refl
    at (table (keys x)) e d = growth_none s (stepped s party (record { request = table (keys x); so_far = so_far; passed = passed }) a (Some t)) b i d refl
    at (table (nodes x)) e d = growth_none s (stepped s party (record { request = table (nodes x); so_far = so_far; passed = passed }) a (Some t)) b i d refl
    at (table (info x)) e d = growth_none s (stepped s party (record { request = table (info x); so_far = so_far; passed = passed }) a (Some t)) b i d refl
    at (table (id x)) e d = growth_none s (stepped s party (record { request = table (id x); so_far = so_far; passed = passed }) a (Some t)) b i d refl
    at (table (gen x)) e d = growth_none s (stepped s party (record { request = table (gen x); so_far = so_far; passed = passed }) a (Some t)) b i d refl
    at (get f) e d = growth_none s (stepped s party (record { request = get f; so_far = so_far; passed = passed }) a (Some t)) b i d refl
    at (fresh l) e d = growth_none s (stepped s party (record { request = fresh l; so_far = so_far; passed = passed }) a (Some t)) b i d refl
    at (put l j w) e d = growth_none s (stepped s party (record { request = put l j w; so_far = so_far; passed = passed }) a (Some t)) b i d refl
    at (update u) e d = entry_growth s (stepped s party (record { request = update u; so_far = so_far; passed = passed }) a (Some t)) b i u.board u.entry (value_words u.value) d refl
    at (publish l) e d = entry_growth s (stepped s party (record { request = publish l; so_far = so_far; passed = passed }) a (Some t)) b i l.board l.entry (map word_put l.words) d refl
    at (fill l v) e d = entry_growth s (stepped s party (record { request = fill l v; so_far = so_far; passed = passed }) a (Some t)) b i l.board l.entry (value_words v) d refl

-- ---- one line

step_growth : (s : State) (party : List ℕ) (x : Party) (a : Access) (told : Option Reply) (b i : ℕ) → s.parties party ≡ x → b ≤ s.standing.tables.last_board → IsRight s (line.Step party) (answer.Step a told)
    → IsGrowth s (after_step s party x a told) b i (if publishes_by x told b i then 1 else 0)
step_growth s party free a told b i e le h = growth_none s s b i (omega arith) refl
step_growth s party gone a told b i e le h = growth_none s s b i (omega arith) refl
step_growth s party (running r) a None b i e le h = growth_none s (stepped s party r a None) b i (omega arith) refl
step_growth s party (running r) a (Some t) b i e le h = told_growth s party r.request r.so_far r.passed a t b i le (step_of s party r a (Some t) e h).reply.reply

pub line_growth : (s : State) (l : Line) (a : Answer) (b i : ℕ) → b ≤ s.standing.tables.last_board → IsRight s l a → IsGrowth s (after s l a) b i (if publishes_entry s l a b i then 1 else 0)
line_growth s (line.Begin party c) answer.Begun b i le r = growth_none s (after s (line.Begin party c) answer.Begun) b i (omega arith) refl
line_growth s (line.Begin party c) (answer.Refused why) b i le r = growth_none s s b i (omega arith) refl
line_growth s (line.Begin party c) (answer.Step a told) b i le r = growth_none s s b i (omega arith) refl
line_growth s (line.Begin party c) answer.Gone b i le r = growth_none s s b i (omega arith) refl
line_growth s (line.Begin party c) (answer.Words ws) b i le r = growth_none s s b i (omega arith) refl
line_growth s (line.Step party) answer.Begun b i le r = growth_none s s b i (omega arith) refl
line_growth s (line.Step party) (answer.Refused why) b i le r = growth_none s s b i (omega arith) refl
line_growth s (line.Step party) (answer.Step a told) b i le r = step_growth s party (s.parties party) a told b i refl le r
line_growth s (line.Step party) answer.Gone b i le r = growth_none s s b i (omega arith) refl
line_growth s (line.Step party) (answer.Words ws) b i le r = growth_none s s b i (omega arith) refl
line_growth s (line.Release party name) answer.Begun b i le r = growth_none s s b i (omega arith) refl
line_growth s (line.Release party name) (answer.Refused why) b i le r = growth_none s s b i (omega arith) refl
line_growth s (line.Release party name) (answer.Step a told) b i le r = growth_none s (after s (line.Release party name) (answer.Step a told)) b i (drawn_drop s.standing party name).board_low refl
line_growth s (line.Release party name) answer.Gone b i le r = growth_none s s b i (omega arith) refl
line_growth s (line.Release party name) (answer.Words ws) b i le r = growth_none s s b i (omega arith) refl
line_growth s (line.Abandon party) answer.Begun b i le r = growth_none s s b i (omega arith) refl
line_growth s (line.Abandon party) (answer.Refused why) b i le r = growth_none s s b i (omega arith) refl
line_growth s (line.Abandon party) (answer.Step a told) b i le r = growth_none s s b i (omega arith) refl
line_growth s (line.Abandon party) answer.Gone b i le r = growth_none s (after s (line.Abandon party) answer.Gone) b i (omega arith) refl
line_growth s (line.Abandon party) (answer.Words ws) b i le r = growth_none s s b i (omega arith) refl
line_growth s (line.Words n) answer.Begun b i le r = growth_none s s b i (omega arith) refl
line_growth s (line.Words n) (answer.Refused why) b i le r = growth_none s s b i (omega arith) refl
line_growth s (line.Words n) (answer.Step a told) b i le r = growth_none s s b i (omega arith) refl
line_growth s (line.Words n) answer.Gone b i le r = growth_none s s b i (omega arith) refl
line_growth s (line.Words n) (answer.Words ws) b i le r = growth_none s s b i (omega arith) refl

pub session_growth : (pairs : Session) (s : State) (b i : ℕ) → b ≤ s.standing.tables.last_board → IsLawfulFrom s pairs → IsGrowth s (state_after s pairs) b i (publications_in s pairs b i)
session_growth [] s b i le h = growth_none s s b i (omega arith) refl
session_growth (x ∷ xs) s b i le h =
    let one = line_growth s x.0 x.1 b i le h.0 in
    let rest = session_growth xs (after s x.0 x.1) b i (omega (arith, one.drawn)) h.1 in
    record {
      drawn = omega (arith, one.drawn, rest.drawn);
      more = one.more ++ rest.more;
      list = rest.list ∙ ap (λ (l : List (List ℕ)). l ++ rest.more) one.list ∙ append_assoc (s.published b i) one.more rest.more;
      count = length-append one.more rest.more ∙ ap (λ (n : ℕ). n + length rest.more) one.count ∙ ap (λ (n : ℕ). (if publishes_entry s x.0 x.1 b i then 1 else 0) + n) rest.count;
    }

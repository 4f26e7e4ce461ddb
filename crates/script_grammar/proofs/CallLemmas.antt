-- The tokens of a call are read as that call, and what is read has these tokens.
use Rattle.std.proofs.Common.{◌≡◌, ℕ, true, false, List, [], ◌∷◌, ◌++◌, Option, Some, None, refl, sym, ap, subst, ◌∙◌}
use Rattle.std.specs.Prelude.{codes}
use Rattle.std.specs.Str.{bytes_eq}
use Rattle.std.specs.List.{flat_map, AllByRecursion}
use Rattle.std.proofs.lemmas.List.{append-nil, append_assoc}
use Rattle.std.proofs.lemmas.List.Concat.{flat_map-cons}
use Rattle.board_model.specs.declared.attributes.Attribute.{Attribute}
use Rattle.board_model.specs.declared.attributes.Requirements.{Requirements}
use Rattle.board_model.specs.declared.tables.Limits.{Limits}
use Rattle.board_model.specs.declared.tables.NewLimits.{NewLimits}
use Rattle.board_model.specs.declared.value.AddedEntry.{AddedEntry}
use Rattle.board_model.specs.declared.value.Key.{Key}
use Rattle.board_model.specs.declared.value.KeyType.{KeyType}
use Rattle.board_model.specs.declared.value.ValueType.{ValueType}
use Rattle.board_model.specs.declared.line.Call.{Call}
use Rattle.board_model.specs.declared.line.Call.TheVariants as call
use Rattle.board_model.specs.LineGrammar.{IsKey, AreLimits, is_board_name, is_name, key_text, key_type_text, value_text, value_type_text, entry_tokens, call_tokens, name_tokens, IsNameIfAny, IsAddedEntry, IsCall, limit_tokens, limits_tokens, new_limits_tokens, pair_tokens, needed_key_tokens}
use Rattle.script_grammar.specs.TokenReading.{◌>>=◌, guard, first_by, is_end, read_name, read_board_name, read_key_type, read_value_type, read_key, read_value, read_number}
use Rattle.script_grammar.specs.LineReading.{begins_with, read_board, read_limit, read_limits, read_parts, read_pair, read_needs, read_entry, read_entries, read_create, read_one_name, read_two_names, read_name_if_any, read_open, read_entry_parts, read_get, read_update, read_put, read_fill, read_named_call, read_plain_call, read_call}
use Rattle.script_grammar.proofs.ReaderLemmas.{some_is, bind_some, guard_some, word_is, by_word, no_word, first_takes, end_takes, token_before, word_before}
use Rattle.script_grammar.proofs.NumeralLemmas.{number_again, number_takes}
use Rattle.script_grammar.proofs.TokenLemmas.{name_again, name_takes, board_name_again, board_name_takes, key_type_again, key_type_takes, value_type_again, value_type_takes, key_again, key_takes, value_again, value_takes}
use Rattle.script_grammar.proofs.OptionLemmas.{begins_not, begins_no_limit, begins_no_part, limit_again, limit_takes, limits_again, limits_take, pairs_again, pairs_take, needs_again, needs_take}

-- ---- entries

pub entries_again : (es : List AddedEntry) → AllByRecursion IsAddedEntry es → read_entries (flat_map entry_tokens es) ≡ Some es
unfolding read_entries read_entry
entries_again [] h = refl
entries_again (e ∷ es) h = ap read_entries (flat_map-cons entry_tokens e es) ∙ rw (key_again e.key h.0.key, value_again e.value h.0.value, entries_again es h.1) refl

three : (a b c x y z : List ℕ) → a ≡ x → b ≡ y → c ≡ z → a ∷ b ∷ c ∷ [] ≡ x ∷ y ∷ z ∷ []
three a b c x y z p q r = cc

record IsTakenEntry (w k v : List ℕ) (e : AddedEntry) : Type 0 where
  pub tokens : w ∷ k ∷ v ∷ [] ≡ entry_tokens e
  pub is : IsAddedEntry e

entry_takes : (w k v : List ℕ) (e : AddedEntry) → read_entry w k v ≡ Some e → IsTakenEntry w k v e
unfolding read_entry
entry_takes w k v e h =
    let g = guard_some (bytes_eq w (codes "add")) (read_key k >>= λ key. read_value v >>= λ value. Some (record { key = key; value = value })) e h in
    let a = bind_some (read_key k) (λ key. read_value v >>= λ value. Some (record { key = key; value = value })) e g.1 in
    let b = bind_some (read_value v) (λ value. Some (record { key = a.0; value = value })) e a.2 in
    let made : AddedEntry = record { key = a.0; value = b.0 } in
    let ta = key_takes k a.0 a.1 in
    let tb = value_takes v b.0 b.1 in
    subst (IsTakenEntry w k v) (some_is made e b.2)
    (record { tokens = three w k v (codes "add") (key_text a.0) (value_text b.0) (word_is w (codes "add") g.0) ta.token tb.token; is = record { key = ta.is; value = tb.is } })

pub record AreTaken (ts : List (List ℕ)) (es : List AddedEntry) : Type 0 where
  pub tokens : ts ≡ flat_map entry_tokens es
  pub are : AllByRecursion IsAddedEntry es

pub entries_take : (ts : List (List ℕ)) (es : List AddedEntry) → read_entries ts ≡ Some es → AreTaken ts es
unfolding read_entries
entries_take [] es e = subst (AreTaken []) (some_is [] es e) (record { tokens = refl; are = tt })
entries_take (w ∷ []) es e = absurd cc
entries_take (w ∷ k ∷ []) es e = absurd cc
entries_take (w ∷ k ∷ v ∷ rest) es e =
    let a = bind_some (read_entry w k v) (λ x. read_entries rest >>= λ xs. Some (x ∷ xs)) es e in
    let b = bind_some (read_entries rest) (λ xs. Some (a.0 ∷ xs)) es a.2 in
    let one = entry_takes w k v a.0 a.1 in
    let more = entries_take rest b.0 b.1 in
    subst (AreTaken (w ∷ k ∷ v ∷ rest)) (some_is (a.0 ∷ b.0) es b.2)
    (record { tokens = ap (λ (x : List (List ℕ)). x ++ rest) one.tokens ∙ ap (λ (x : List (List ℕ)). entry_tokens a.0 ++ x) more.tokens ∙ sym (flat_map-cons entry_tokens a.0 b.0); are = (one.is, more.are) })

-- ---- calls

pub record TakesCall (ts : List (List ℕ)) (c : Call) : Type 0 where
  pub tokens : ts ≡ call_tokens c
  pub is : IsCall c

-- ---- calls of names alone

pub one_again : (a : List ℕ) → is_name a ≡ true → read_one_name (a ∷ []) ≡ Some a
unfolding read_one_name
one_again a h = rw (name_again a h) refl

pub record OneName (ts : List (List ℕ)) (a : List ℕ) : Type 0 where
  pub tokens : ts ≡ a ∷ []
  pub named : is_name a ≡ true

pub one_takes : (ts : List (List ℕ)) (a : List ℕ) → read_one_name ts ≡ Some a → OneName ts a
unfolding read_one_name
one_takes ts a e =
    let x = bind_some (first_by read_name ts) (λ x. guard (is_end x.1) (Some x.0)) a e in
    let g = guard_some (is_end x.0.1) (Some x.0.0) a x.2 in
    let t = first_takes read_name ts x.0 x.1 in
    let n = name_takes t.token x.0.0 t.is in
    subst (OneName ts) (some_is x.0.0 a g.1) (record { tokens = token_before t.all n.token (end_takes x.0.1 g.0); named = n.named })

pub two_again : (a b : List ℕ) → is_name a ≡ true → is_name b ≡ true → read_two_names (a ∷ b ∷ []) ≡ Some (a, b)
unfolding read_two_names
two_again a b p q = rw (name_again a p, name_again b q) refl

pub record TwoNames (ts : List (List ℕ)) (p : List ℕ × List ℕ) : Type 0 where
  pub tokens : ts ≡ p.0 ∷ p.1 ∷ []
  pub first : is_name p.0 ≡ true
  pub second : is_name p.1 ≡ true

pub two_take : (ts : List (List ℕ)) (p : List ℕ × List ℕ) → read_two_names ts ≡ Some p → TwoNames ts p
unfolding read_two_names
two_take ts p e =
    let a = bind_some (first_by read_name ts) _ p e in
    let b = bind_some (first_by read_name a.0.1) _ p a.2 in
    let g = guard_some (is_end b.0.1) (Some (a.0.0, b.0.0)) p b.2 in
    let ta = first_takes read_name ts a.0 a.1 in
    let tb = first_takes read_name a.0.1 b.0 b.1 in
    let na = name_takes ta.token a.0.0 ta.is in
    let nb = name_takes tb.token b.0.0 tb.is in
    subst (TwoNames ts) (some_is (a.0.0, b.0.0) p g.1)
    (record { tokens = token_before ta.all na.token (token_before tb.all nb.token (end_takes b.0.1 g.0)); first = na.named; second = nb.named })

-- a call of one name
of_one : (word : List ℕ) (make : List ℕ → Call) → ((a : List ℕ) → is_name a ≡ true → TakesCall (word ∷ a ∷ []) (make a)) → (ts : List (List ℕ)) (c : Call) → (read_one_name ts >>= λ a. Some (make a)) ≡ Some c → TakesCall (word ∷ ts) c
of_one word make made ts c e =
    let a = bind_some (read_one_name ts) (λ a. Some (make a)) c e in
    let t = one_takes ts a.0 a.1 in
    let m = made a.0 t.named in
    subst (TakesCall (word ∷ ts)) (some_is (make a.0) c a.2) (record { tokens = word_before word t.tokens ∙ m.tokens; is = m.is })

-- a call of two names
of_two : (word : List ℕ) (make : List ℕ → List ℕ → Call) → ((a b : List ℕ) → is_name a ≡ true → is_name b ≡ true → TakesCall (word ∷ a ∷ b ∷ []) (make a b)) → (ts : List (List ℕ)) (c : Call) → (read_two_names ts >>= λ p. Some (make p.0 p.1)) ≡ Some c → TakesCall (word ∷ ts) c
of_two word make made ts c e =
    let p = bind_some (read_two_names ts) (λ p. Some (make p.0 p.1)) c e in
    let t = two_take ts p.0 p.1 in
    let m = made p.0.0 p.0.1 t.first t.second in
    subst (TakesCall (word ∷ ts)) (some_is (make p.0.0 p.0.1) c p.2) (record { tokens = word_before word t.tokens ∙ m.tokens; is = m.is })

named_takes : (word : List ℕ) (ts : List (List ℕ)) (c : Call) → read_named_call word ts ≡ Some c → TakesCall (word ∷ ts) c
unfolding read_named_call
named_takes word ts c e =
    by_word (λ w. TakesCall (w ∷ ts) c) word (codes "reader") _ _ c e (of_two (codes "reader") (λ a b. call.Reader a b) (λ a b h k. record { tokens = refl; is = (h, k) }) ts c)
    (λ e. by_word (λ w. TakesCall (w ∷ ts) c) word (codes "writer") _ _ c e (of_two (codes "writer") (λ a b. call.Writer a b) (λ a b h k. record { tokens = refl; is = (h, k) }) ts c)
    (λ e. by_word (λ w. TakesCall (w ∷ ts) c) word (codes "fresh") _ _ c e (of_two (codes "fresh") (λ a b. call.Fresh a b) (λ a b h k. record { tokens = refl; is = (h, k) }) ts c)
    (λ e. by_word (λ w. TakesCall (w ∷ ts) c) word (codes "loan") _ _ c e (of_two (codes "loan") (λ a b. call.Loan a b) (λ a b h k. record { tokens = refl; is = (h, k) }) ts c)
    (λ e. by_word (λ w. TakesCall (w ∷ ts) c) word (codes "discard") _ _ c e (of_two (codes "discard") (λ a b. call.Discard a b) (λ a b h k. record { tokens = refl; is = (h, k) }) ts c)
    (λ e. by_word (λ w. TakesCall (w ∷ ts) c) word (codes "publish") _ _ c e (of_two (codes "publish") (λ a b. call.Publish a b) (λ a b h k. record { tokens = refl; is = (h, k) }) ts c)
    (λ e. by_word (λ w. TakesCall (w ∷ ts) c) word (codes "gen") _ _ c e (of_one (codes "gen") (λ a. call.Gen a) (λ a h. record { tokens = refl; is = h }) ts c)
    (λ e. by_word (λ w. TakesCall (w ∷ ts) c) word (codes "keys") _ _ c e (of_one (codes "keys") (λ a. call.Keys a) (λ a h. record { tokens = refl; is = h }) ts c)
    (λ e. by_word (λ w. TakesCall (w ∷ ts) c) word (codes "nodes") _ _ c e (of_one (codes "nodes") (λ a. call.Nodes a) (λ a h. record { tokens = refl; is = h }) ts c)
    (λ e. by_word (λ w. TakesCall (w ∷ ts) c) word (codes "info") _ _ c e (of_one (codes "info") (λ a. call.Info a) (λ a h. record { tokens = refl; is = h }) ts c)
    (λ e. by_word (λ w. TakesCall (w ∷ ts) c) word (codes "id") _ _ c e (of_one (codes "id") (λ a. call.Id a) (λ a h. record { tokens = refl; is = h }) ts c)
    (no_word (TakesCall (word ∷ ts) c) c)))))))))))

-- ---- create and open

pub record IsTakenBoard (ts : List (List ℕ)) (p : (List ℕ × List ℕ × KeyType × Limits) × List (List ℕ)) : Type 0 where
  pub tokens : ts ≡ p.0.0 ∷ p.0.1 ∷ key_type_text p.0.2 ∷ (limits_tokens p.0.3 ++ p.1)
  pub factory : is_name p.0.0 ≡ true
  pub name : is_board_name p.0.1 ≡ true
  pub limits : AreLimits p.0.3

board_takes : (ts : List (List ℕ)) (p : (List ℕ × List ℕ × KeyType × Limits) × List (List ℕ)) → read_board ts ≡ Some p → IsTakenBoard ts p
unfolding read_board
board_takes ts p e =
    let f = bind_some (first_by read_name ts) _ p e in
    let n = bind_some (first_by read_board_name f.0.1) _ p f.2 in
    let k = bind_some (first_by read_key_type n.0.1) _ p n.2 in
    let l = bind_some (read_limits k.0.1) _ p k.2 in
    let tf = first_takes read_name ts f.0 f.1 in
    let tn = first_takes read_board_name f.0.1 n.0 n.1 in
    let tk = first_takes read_key_type n.0.1 k.0 k.1 in
    let tl = limits_take k.0.1 l.0 l.1 in
    let nf = name_takes tf.token f.0.0 tf.is in
    let nn = board_name_takes tn.token n.0.0 tn.is in
    subst (IsTakenBoard ts) (some_is ((f.0.0, n.0.0, k.0.0, l.0.0), l.0.1) p l.2) (record {
      tokens = token_before tf.all nf.token (token_before tn.all nn.token (token_before tk.all (key_type_takes tk.token k.0.0 tk.is) tl.tokens));
      factory = nf.named;
      name = nn.named;
      limits = tl.are;
    })

board_again : (f n : List ℕ) (k : KeyType) (l : Limits) → is_name f ≡ true → is_board_name n ≡ true → AreLimits l → (rest : List (List ℕ)) → begins_with (codes "readers") rest ≡ false → begins_with (codes "nodes") rest ≡ false → read_board (f ∷ n ∷ key_type_text k ∷ (limits_tokens l ++ rest)) ≡ Some ((f, n, k, l), rest)
unfolding read_board
board_again f n k l hf hn hl rest readers nodes = rw (name_again f hf, board_name_again n hn, key_type_again k, limits_again l hl rest readers nodes) refl

entries_begin : (word : List ℕ) → bytes_eq (codes "add") word ≡ false → (es : List AddedEntry) → begins_with word (flat_map entry_tokens es) ≡ false
entries_begin word other es = begins_no_part word entry_tokens (λ e rest. other) es

abbrev behind_limits : List Attribute → List AddedEntry → List (List ℕ)
behind_limits attributes es = flat_map (pair_tokens (codes "attr")) attributes ++ flat_map entry_tokens es

create_begins : (word : List ℕ) → bytes_eq (codes "attr") word ≡ false → bytes_eq (codes "add") word ≡ false → (attributes : List Attribute) (es : List AddedEntry) → begins_with word (behind_limits attributes es) ≡ false
create_begins word a b attributes es = begins_not word (pair_tokens (codes "attr")) (λ x rest. a) attributes (flat_map entry_tokens es) (entries_begin word b es)

-- the limit of writers, and what is behind it
abbrev behind_shared : Option ℕ → List Attribute → List AddedEntry → List (List ℕ)
behind_shared writers attributes es = limit_tokens (codes "writers") writers ++ behind_limits attributes es

shared_begins : (word : List ℕ) → bytes_eq (codes "writers") word ≡ false → bytes_eq (codes "attr") word ≡ false → bytes_eq (codes "add") word ≡ false → (writers : Option ℕ) (attributes : List Attribute) (es : List AddedEntry) → begins_with word (behind_shared writers attributes es) ≡ false
shared_begins word w a b writers attributes es = begins_no_limit word (codes "writers") w writers (behind_limits attributes es) (create_begins word a b attributes es)

-- the tokens of the limits of a new board, and what is behind them
parted_limits : (l : NewLimits) (attributes : List Attribute) (es : List AddedEntry) → new_limits_tokens l ++ behind_limits attributes es ≡ limits_tokens l.shared ++ behind_shared l.max_writers attributes es
parted_limits l attributes es = append_assoc (limits_tokens l.shared) (limit_tokens (codes "writers") l.max_writers) (behind_limits attributes es)

create_again : (f n : List ℕ) (k : KeyType) (l : NewLimits) (attributes : List Attribute) (es : List AddedEntry) → IsCall (call.Create f n k l attributes es) → read_create (f ∷ n ∷ key_type_text k ∷ (new_limits_tokens l ++ behind_limits attributes es)) ≡ Some (call.Create f n k l attributes es)
unfolding read_create
create_again f n k l attributes es h =
    ap (λ (x : List (List ℕ)). read_create (f ∷ n ∷ key_type_text k ∷ x)) (parted_limits l attributes es)
    ∙ rw (
      board_again f n k l.shared h.0 h.1 h.2.shared (behind_shared l.max_writers attributes es) (shared_begins (codes "readers") refl refl refl l.max_writers attributes es) (shared_begins (codes "nodes") refl refl refl l.max_writers attributes es),
      limit_again (codes "writers") refl l.max_writers h.2.writers (behind_limits attributes es) (create_begins (codes "writers") refl refl attributes es),
      pairs_again (codes "attr") refl attributes h.3 (flat_map entry_tokens es) (entries_begin (codes "attr") refl es),
      entries_again es h.4,
    ) refl

-- the tokens of a board are followed by these
followed : (f n : List ℕ) (k : KeyType) (l : Limits) (ts rest us : List (List ℕ)) → ts ≡ f ∷ n ∷ key_type_text k ∷ (limits_tokens l ++ rest) → rest ≡ us → ts ≡ f ∷ n ∷ key_type_text k ∷ (limits_tokens l ++ us)
followed f n k l ts rest us e is = e ∙ ap (λ (x : List (List ℕ)). f ∷ n ∷ key_type_text k ∷ (limits_tokens l ++ x)) is

create_takes : (ts : List (List ℕ)) (c : Call) → read_create ts ≡ Some c → TakesCall (codes "create" ∷ ts) c
unfolding read_create
create_takes ts c e =
    let b = bind_some (read_board ts) _ c e in
    let w = bind_some (read_limit (codes "writers") b.0.1) _ c b.2 in
    let as_ = bind_some (read_parts 8 (codes "attr") read_pair w.0.1) _ c w.2 in
    let es = bind_some (read_entries as_.0.1) _ c as_.2 in
    let tb = board_takes ts b.0 b.1 in
    let tw = limit_takes (codes "writers") b.0.1 w.0 w.1 in
    let ta = pairs_take (codes "attr") w.0.1 as_.0 as_.1 in
    let te = entries_take as_.0.1 es.0 es.1 in
    let limits : NewLimits = record { shared = b.0.0.3; max_writers = w.0.0 } in
    let behind : w.0.1 ≡ behind_limits as_.0.0 es.0 = ta.tokens ∙ ap (λ (x : List (List ℕ)). flat_map (pair_tokens (codes "attr")) as_.0.0 ++ x) te.tokens in
    let all : b.0.1 ≡ behind_shared w.0.0 as_.0.0 es.0 = tw.tokens ∙ ap (λ (x : List (List ℕ)). limit_tokens (codes "writers") w.0.0 ++ x) behind in
    let together = followed b.0.0.0 b.0.0.1 b.0.0.2 b.0.0.3 ts b.0.1 _ tb.tokens all ∙ ap (λ (x : List (List ℕ)). b.0.0.0 ∷ b.0.0.1 ∷ key_type_text b.0.0.2 ∷ x) (sym (parted_limits limits as_.0.0 es.0)) in
    subst (TakesCall (codes "create" ∷ ts)) (some_is (call.Create b.0.0.0 b.0.0.1 b.0.0.2 limits as_.0.0 es.0) c es.2)
    (record { tokens = word_before (codes "create") together; is = (tb.factory, tb.name, record { shared = tb.limits; writers = tw.is }, ta.are, te.are) })

abbrev needs_tokens : Requirements → List (List ℕ)
needs_tokens needs = flat_map (pair_tokens (codes "need")) needs.pairs ++ flat_map needed_key_tokens needs.keys

open_begins : (word : List ℕ) → bytes_eq (codes "need") word ≡ false → bytes_eq (codes "needkey") word ≡ false → (needs : Requirements) → begins_with word (needs_tokens needs) ≡ false
open_begins word a b needs = begins_not word (pair_tokens (codes "need")) (λ x rest. a) needs.pairs (flat_map needed_key_tokens needs.keys) (begins_no_part word needed_key_tokens (λ x rest. b) needs.keys)

open_again : (f n : List ℕ) (k : KeyType) (l : Limits) (needs : Requirements) → IsCall (call.Open f n k l needs) → read_open (f ∷ n ∷ key_type_text k ∷ (limits_tokens l ++ (flat_map (pair_tokens (codes "need")) needs.pairs ++ flat_map needed_key_tokens needs.keys))) ≡ Some (call.Open f n k l needs)
unfolding read_open
open_again f n k l needs h =
    rw (
      board_again f n k l h.0 h.1 h.2 (needs_tokens needs) (open_begins (codes "readers") refl refl needs) (open_begins (codes "nodes") refl refl needs),
      needs_again needs h.3,
    ) refl

open_takes : (ts : List (List ℕ)) (c : Call) → read_open ts ≡ Some c → TakesCall (codes "open" ∷ ts) c
unfolding read_open
open_takes ts c e =
    let b = bind_some (read_board ts) _ c e in
    let needs = bind_some (read_needs b.0.1) _ c b.2 in
    let g = guard_some (is_end needs.0.1) (Some (call.Open b.0.0.0 b.0.0.1 b.0.0.2 b.0.0.3 needs.0.0)) c needs.2 in
    let tb = board_takes ts b.0 b.1 in
    let td = needs_take b.0.1 needs.0 needs.1 in
    let no_more : flat_map needed_key_tokens needs.0.0.keys ++ needs.0.1 ≡ flat_map needed_key_tokens needs.0.0.keys =
    ap (λ (x : List (List ℕ)). flat_map needed_key_tokens needs.0.0.keys ++ x) (end_takes needs.0.1 g.0) ∙ append-nil (flat_map needed_key_tokens needs.0.0.keys) in
    let behind : b.0.1 ≡ needs_tokens needs.0.0 = td.tokens ∙ ap (λ (x : List (List ℕ)). flat_map (pair_tokens (codes "need")) needs.0.0.pairs ++ x) no_more in
    subst (TakesCall (codes "open" ∷ ts)) (some_is (call.Open b.0.0.0 b.0.0.1 b.0.0.2 b.0.0.3 needs.0.0) c g.1)
    (record { tokens = word_before (codes "open") (followed b.0.0.0 b.0.0.1 b.0.0.2 b.0.0.3 ts b.0.1 _ tb.tokens behind); is = (tb.factory, tb.name, tb.limits, td.are) })

-- ---- a name at the end

pub name_if_any_again : (v : Option (List ℕ)) → IsNameIfAny v → read_name_if_any (name_tokens v) ≡ Some v
unfolding read_name_if_any
name_if_any_again None h = refl
name_if_any_again (Some v) h = rw (name_again v h) refl

record IsTakenName (ts : List (List ℕ)) (v : Option (List ℕ)) : Type 0 where
  pub tokens : ts ≡ name_tokens v
  pub is : IsNameIfAny v

name_if_any_takes : (ts : List (List ℕ)) (v : Option (List ℕ)) → read_name_if_any ts ≡ Some v → IsTakenName ts v
unfolding read_name_if_any
name_if_any_takes [] v e = subst (IsTakenName []) (some_is None v e) (record { tokens = refl; is = tt })
name_if_any_takes (t ∷ ts) v e =
    let n = bind_some (read_name t) (λ n. guard (is_end ts) (Some (Some n))) v e in
    let g = guard_some (is_end ts) (Some (Some n.0)) v n.2 in
    let nn = name_takes t n.0 n.1 in
    subst (IsTakenName (t ∷ ts)) (some_is (Some n.0) v g.1) (record { tokens = token_before refl nn.token (end_takes ts g.0); is = nn.named })

get_takes : (ts : List (List ℕ)) (c : Call) → read_get ts ≡ Some c → TakesCall (codes "get" ∷ ts) c
unfolding read_get
get_takes ts c e =
    let h = bind_some (first_by read_name ts) _ c e in
    let v = bind_some (read_name_if_any h.0.1) _ c h.2 in
    let th = first_takes read_name ts h.0 h.1 in
    let nh = name_takes th.token h.0.0 th.is in
    let tv = name_if_any_takes h.0.1 v.0 v.1 in
    subst (TakesCall (codes "get" ∷ ts)) (some_is (call.Get h.0.0 v.0) c v.2)
    (record { tokens = word_before (codes "get") (token_before th.all nh.token tv.tokens); is = (nh.named, tv.is) })

-- ---- calls with keys and values

record AreTakenParts (ts : List (List ℕ)) (p : List ℕ × List ℕ × Key × ValueType) : Type 0 where
  pub tokens : ts ≡ p.0 ∷ p.1 ∷ key_text p.2 ∷ value_type_text p.3 ∷ []
  pub handle : is_name p.0 ≡ true
  pub port : is_name p.1 ≡ true
  pub key : IsKey p.2

entry_parts_take : (ts : List (List ℕ)) (p : List ℕ × List ℕ × Key × ValueType) → read_entry_parts ts ≡ Some p → AreTakenParts ts p
unfolding read_entry_parts
entry_parts_take ts p e =
    let h = bind_some (first_by read_name ts) _ p e in
    let r = bind_some (first_by read_name h.0.1) _ p h.2 in
    let k = bind_some (first_by read_key r.0.1) _ p r.2 in
    let v = bind_some (first_by read_value_type k.0.1) _ p k.2 in
    let g = guard_some (is_end v.0.1) (Some (h.0.0, r.0.0, k.0.0, v.0.0)) p v.2 in
    let th = first_takes read_name ts h.0 h.1 in
    let tr = first_takes read_name h.0.1 r.0 r.1 in
    let tk = first_takes read_key r.0.1 k.0 k.1 in
    let tv = first_takes read_value_type k.0.1 v.0 v.1 in
    let nh = name_takes th.token h.0.0 th.is in
    let nr = name_takes tr.token r.0.0 tr.is in
    let nk = key_takes tk.token k.0.0 tk.is in
    subst (AreTakenParts ts) (some_is (h.0.0, r.0.0, k.0.0, v.0.0) p g.1) (record {
      tokens = token_before th.all nh.token (token_before tr.all nr.token (token_before tk.all nk.token (token_before tv.all (value_type_takes tv.token v.0.0 tv.is) (end_takes v.0.1 g.0))));
      handle = nh.named;
      port = nr.named;
      key = nk.is;
    })

-- a call of these parts
of_parts : (word : List ℕ) (make : List ℕ → List ℕ → Key → ValueType → Call) → ((h r : List ℕ) (k : Key) (v : ValueType) → is_name h ≡ true → is_name r ≡ true → IsKey k → TakesCall (word ∷ h ∷ r ∷ key_text k ∷ value_type_text v ∷ []) (make h r k v)) → (ts : List (List ℕ)) (c : Call) → (read_entry_parts ts >>= λ p. Some (make p.0 p.1 p.2 p.3)) ≡ Some c → TakesCall (word ∷ ts) c
of_parts word make made ts c e =
    let p = bind_some (read_entry_parts ts) (λ p. Some (make p.0 p.1 p.2 p.3)) c e in
    let t = entry_parts_take ts p.0 p.1 in
    let m = made p.0.0 p.0.1 p.0.2 p.0.3 t.handle t.port t.key in
    subst (TakesCall (word ∷ ts)) (some_is (make p.0.0 p.0.1 p.0.2 p.0.3) c p.2) (record { tokens = word_before word t.tokens ∙ m.tokens; is = m.is })

put_takes : (ts : List (List ℕ)) (c : Call) → read_put ts ≡ Some c → TakesCall (codes "put" ∷ ts) c
unfolding read_put
put_takes ts c e =
    let l = bind_some (first_by read_name ts) _ c e in
    let i = bind_some (first_by read_number l.0.1) _ c l.2 in
    let w = bind_some (first_by read_number i.0.1) _ c i.2 in
    let g = guard_some (is_end w.0.1) (Some (call.Put l.0.0 i.0.0 w.0.0)) c w.2 in
    let tl = first_takes read_name ts l.0 l.1 in
    let ti = first_takes read_number l.0.1 i.0 i.1 in
    let tw = first_takes read_number i.0.1 w.0 w.1 in
    let nl = name_takes tl.token l.0.0 tl.is in
    let ni = number_takes ti.token i.0.0 ti.is in
    let nw = number_takes tw.token w.0.0 tw.is in
    subst (TakesCall (codes "put" ∷ ts)) (some_is (call.Put l.0.0 i.0.0 w.0.0) c g.1)
    (record {
      tokens = word_before (codes "put") (token_before tl.all nl.token (token_before ti.all ni.0 (token_before tw.all nw.0 (end_takes w.0.1 g.0))));
      is = (nl.named, ni.1, nw.1);
    })

fill_takes : (ts : List (List ℕ)) (c : Call) → read_fill ts ≡ Some c → TakesCall (codes "fill" ∷ ts) c
unfolding read_fill
fill_takes ts c e =
    let l = bind_some (first_by read_name ts) _ c e in
    let m = bind_some (first_by read_name l.0.1) _ c l.2 in
    let v = bind_some (first_by read_value m.0.1) _ c m.2 in
    let g = guard_some (is_end v.0.1) (Some (call.Fill l.0.0 m.0.0 v.0.0)) c v.2 in
    let tl = first_takes read_name ts l.0 l.1 in
    let tm = first_takes read_name l.0.1 m.0 m.1 in
    let tv = first_takes read_value m.0.1 v.0 v.1 in
    let nl = name_takes tl.token l.0.0 tl.is in
    let nm = name_takes tm.token m.0.0 tm.is in
    let nv = value_takes tv.token v.0.0 tv.is in
    subst (TakesCall (codes "fill" ∷ ts)) (some_is (call.Fill l.0.0 m.0.0 v.0.0) c g.1)
    (record {
      tokens = word_before (codes "fill") (token_before tl.all nl.token (token_before tm.all nm.token (token_before tv.all nv.token (end_takes v.0.1 g.0))));
      is = (nl.named, nm.named, nv.is);
    })

update_takes : (ts : List (List ℕ)) (c : Call) → read_update ts ≡ Some c → TakesCall (codes "update" ∷ ts) c
unfolding read_update
update_takes ts c e =
    let m = bind_some (first_by read_name ts) _ c e in
    let v = bind_some (first_by read_value m.0.1) _ c m.2 in
    let g = guard_some (is_end v.0.1) (Some (call.Update m.0.0 v.0.0)) c v.2 in
    let tm = first_takes read_name ts m.0 m.1 in
    let tv = first_takes read_value m.0.1 v.0 v.1 in
    let nm = name_takes tm.token m.0.0 tm.is in
    let nv = value_takes tv.token v.0.0 tv.is in
    subst (TakesCall (codes "update" ∷ ts)) (some_is (call.Update m.0.0 v.0.0) c g.1)
    (record { tokens = word_before (codes "update") (token_before tm.all nm.token (token_before tv.all nv.token (end_takes v.0.1 g.0))); is = (nm.named, nv.is) })

-- ---- all calls

plain_call_takes : (word : List ℕ) (ts : List (List ℕ)) (c : Call) → read_plain_call word ts ≡ Some c → TakesCall (word ∷ ts) c
unfolding read_plain_call
plain_call_takes word ts c e =
    by_word (λ w. TakesCall (w ∷ ts) c) word (codes "entry") _ _ c e (of_parts (codes "entry") (λ h r k v. call.Entry h r k v) (λ h r k v a b d. record { tokens = refl; is = (a, b, d) }) ts c)
    (λ e. by_word (λ w. TakesCall (w ∷ ts) c) word (codes "entrymut") _ _ c e (of_parts (codes "entrymut") (λ h r k v. call.EntryMut h r k v) (λ h r k v a b d. record { tokens = refl; is = (a, b, d) }) ts c)
    (λ e. by_word (λ w. TakesCall (w ∷ ts) c) word (codes "get") _ _ c e (get_takes ts c)
    (λ e. by_word (λ w. TakesCall (w ∷ ts) c) word (codes "update") _ _ c e (update_takes ts c)
    (λ e. by_word (λ w. TakesCall (w ∷ ts) c) word (codes "put") _ _ c e (put_takes ts c)
    (λ e. by_word (λ w. TakesCall (w ∷ ts) c) word (codes "fill") _ _ c e (fill_takes ts c)
    (named_takes word ts c))))))

-- what is read has these tokens
pub call_takes : (ts : List (List ℕ)) (c : Call) → read_call ts ≡ Some c → TakesCall ts c
unfolding read_call
call_takes [] c e = absurd cc
call_takes (word ∷ ts) c e =
    by_word (λ w. TakesCall (w ∷ ts) c) word (codes "create") _ _ c e (create_takes ts c)
    (λ e. by_word (λ w. TakesCall (w ∷ ts) c) word (codes "open") _ _ c e (open_takes ts c) (plain_call_takes word ts c))

-- the tokens of a call are read as that call
pub call_again : (c : Call) → IsCall c → read_call (call_tokens c) ≡ Some c
unfolding read_call read_plain_call read_entry_parts read_get read_update read_put read_fill read_named_call
call_again (call.Create f n k l attributes es) h = create_again f n k l attributes es h
call_again (call.Open f n k l needs) h = open_again f n k l needs h
call_again (call.Reader x f) h = rw (two_again x f h.0 h.1) refl
call_again (call.Writer w f) h = rw (two_again w f h.0 h.1) refl
call_again (call.Entry x y k t) h = rw (name_again x h.0, name_again y h.1, key_again k h.2, value_type_again t) refl
call_again (call.EntryMut m w k t) h = rw (name_again m h.0, name_again w h.1, key_again k h.2, value_type_again t) refl
call_again (call.Get x v) h = rw (name_again x h.0, name_if_any_again v h.1) refl
call_again (call.Fresh x v) h = rw (two_again x v h.0 h.1) refl
call_again (call.Update m v) h = rw (name_again m h.0, value_again v h.1) refl
call_again (call.Loan l m) h = rw (two_again l m h.0 h.1) refl
call_again (call.Discard l m) h = rw (two_again l m h.0 h.1) refl
call_again (call.Put l i w) h = rw (name_again l h.0, number_again i h.1, number_again w h.2) refl
call_again (call.Publish l m) h = rw (two_again l m h.0 h.1) refl
call_again (call.Fill l m v) h = rw (name_again l h.0, name_again m h.1, value_again v h.2) refl
call_again (call.Keys f) h = rw (one_again f h) refl
call_again (call.Nodes f) h = rw (one_again f h) refl
call_again (call.Info f) h = rw (one_again f h) refl
call_again (call.Id t) h = rw (one_again t h) refl
call_again (call.Gen m) h = rw (one_again m h) refl

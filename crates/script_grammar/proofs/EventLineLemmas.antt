-- Lines of events are read back from their tokens, and what is read has these tokens.
use Rattle.std.proofs.Common.{◌≡◌, ℕ, ◌≤◌, arith, true, false, Bool, List, [], ◌∷◌, Some, refl, ap, subst, ◌∙◌}
use Rattle.std.specs.Prelude.{nat_le, codes, decimal}
use Rattle.std.proofs.lemmas.Bool.{le-leb, leb-true}
use Rattle.board_event_model.specs.declared.kind.EventKind.{EventKind}
use Rattle.board_event_model.specs.declared.kind.EventKind.TheVariants as kind
use Rattle.board_event_model.specs.declared.call.WaitMode.{WaitMode}
use Rattle.board_event_model.specs.declared.call.WaitMode.TheVariants as mode
use Rattle.board_model.specs.LineGrammar.{is_name}
use Rattle.script_model.specs.declared.line.EventRequest.{EventRequest}
use Rattle.script_model.specs.declared.line.EventRequest.TheVariants as request
use Rattle.script_model.specs.declared.line.ScriptLine.{ScriptLine}
use Rattle.script_model.specs.declared.line.ScriptLine.TheVariants as line
use Rattle.script_model.specs.ScriptGrammar.{IsEventRequest, IsScriptLine, count_text, is_event_name, kind_text, mode_text, request_tokens, script_tokens}
use Rattle.script_grammar.specs.TokenReading.{guard, first_by, is_end, read_name, read_number}
use Rattle.script_grammar.specs.LineReading.{read_one_name}
use Rattle.script_grammar.specs.EventReading.{count_words, kind_words, mode_words, read_count, read_event_begin, read_event_line, read_event_name, read_expire, read_kind, read_listen, read_listener, read_max, read_mode, read_notifier, read_notify, read_port, read_request, read_wait}
use Rattle.script_grammar.proofs.ReaderLemmas.{some_is, bind_some, guard_some, by_word, no_word, beside_takes, first_takes, end_takes, token_before, word_before}
use Rattle.script_grammar.proofs.NumeralLemmas.{number_again, number_takes}
use Rattle.script_grammar.proofs.TokenLemmas.{IsTakenName, named_takes, name_again, name_takes}
use Rattle.script_grammar.proofs.CallLemmas.{one_again, one_takes}

-- ---- tokens

kind_again : (k : EventKind) → read_kind (kind_text k) ≡ Some k
unfolding read_kind
kind_again kind.Bits = refl
kind_again kind.Queue = refl

kind_takes : (t : List ℕ) (k : EventKind) → read_kind t ≡ Some k → t ≡ kind_text k
unfolding read_kind
kind_takes t k e = beside_takes kind_text kind_words t k e (refl, (refl, tt))

mode_again : (m : WaitMode) → read_mode (mode_text m) ≡ Some m
unfolding read_mode
mode_again mode.Try = refl
mode_again mode.Timed = refl
mode_again mode.Block = refl

mode_takes : (t : List ℕ) (m : WaitMode) → read_mode t ≡ Some m → t ≡ mode_text m
unfolding read_mode
mode_takes t m e = beside_takes mode_text mode_words t m e (refl, (refl, (refl, tt)))

count_again : (many : Bool) → read_count (count_text many) ≡ Some many
unfolding read_count
count_again true = refl
count_again false = refl

count_takes : (t : List ℕ) (many : Bool) → read_count t ≡ Some many → t ≡ count_text many
unfolding read_count
count_takes t many e = beside_takes count_text count_words t many e (refl, (refl, tt))

event_name_again : (n : List ℕ) → is_event_name n ≡ true → read_event_name n ≡ Some n
unfolding read_event_name
event_name_again n h = rw h refl

event_name_takes : (t n : List ℕ) → read_event_name t ≡ Some n → IsTakenName is_event_name t n
unfolding read_event_name
event_name_takes t n e = named_takes is_event_name t n e

max_again : (n : ℕ) → n ≤ 65535 → read_max (decimal n) ≡ Some n
unfolding read_max
max_again n le = rw (number_again n (omega (arith, le)), le-leb n 65535 le) refl

max_takes : (t : List ℕ) (n : ℕ) → read_max t ≡ Some n → (t ≡ decimal n) × (n ≤ 65535)
unfolding read_max
max_takes t n e =
    let m = bind_some (read_number t) (λ m. guard (nat_le m 65535) (Some m)) n e in
    let g = guard_some (nat_le m.0 65535) (Some m.0) n m.2 in
    let s : m.0 ≡ n = some_is m.0 n g.1 in
    let d = number_takes t m.0 m.1 in
    (d.0 ∙ ap decimal s, subst (λ (x : ℕ). x ≤ 65535) s (leb-true m.0 65535 g.0))

record TakesRequest (ts : List (List ℕ)) (q : EventRequest) : Type 0 where
  pub tokens : ts ≡ request_tokens q
  pub is : IsEventRequest q

-- ---- ports

record IsTakenPort (ts : List (List ℕ)) (p : (List ℕ × EventKind × List ℕ) × List (List ℕ)) : Type 0 where
  pub tokens : ts ≡ p.0.0 ∷ kind_text p.0.1 ∷ p.0.2 ∷ p.1
  pub port : is_name p.0.0 ≡ true
  pub event : is_event_name p.0.2 ≡ true

port_takes : (ts : List (List ℕ)) (p : (List ℕ × EventKind × List ℕ) × List (List ℕ)) → read_port ts ≡ Some p → IsTakenPort ts p
unfolding read_port
port_takes ts p r =
    let n = bind_some (first_by read_name ts) _ p r in
    let k = bind_some (first_by read_kind n.0.1) _ p n.2 in
    let v = bind_some (first_by read_event_name k.0.1) _ p k.2 in
    let tn = first_takes read_name ts n.0 n.1 in
    let tk = first_takes read_kind n.0.1 k.0 k.1 in
    let tv = first_takes read_event_name k.0.1 v.0 v.1 in
    let nn = name_takes tn.token n.0.0 tn.is in
    let nv = event_name_takes tv.token v.0.0 tv.is in
    subst (IsTakenPort ts) (some_is ((n.0.0, k.0.0, v.0.0), v.0.1) p v.2)
    (record { tokens = token_before tn.all nn.token (token_before tk.all (kind_takes tk.token k.0.0 tk.is) (token_before tv.all nv.token refl)); port = nn.named; event = nv.named })

port_again : (n : List ℕ) (k : EventKind) (v : List ℕ) → is_name n ≡ true → is_event_name v ≡ true → (rest : List (List ℕ)) → read_port (n ∷ kind_text k ∷ v ∷ rest) ≡ Some ((n, k, v), rest)
unfolding read_port
port_again n k v hn hv rest = rw (name_again n hn, kind_again k, event_name_again v hv) refl

-- what follows a port
followed : (n : List ℕ) (k : EventKind) (v : List ℕ) (ts rest us : List (List ℕ)) → ts ≡ n ∷ kind_text k ∷ v ∷ rest → rest ≡ us → ts ≡ n ∷ kind_text k ∷ v ∷ us
followed n k v ts rest us e is = cc

-- the end of a `listen`
listener_takes : (ts rest : List (List ℕ)) (e event : List ℕ) (k : EventKind) (q : EventRequest) → ts ≡ e ∷ kind_text k ∷ event ∷ rest → is_name e ≡ true → is_event_name event ≡ true → read_listener e k event rest ≡ Some q → TakesRequest (codes "listen" ∷ ts) q
unfolding read_listener
listener_takes ts rest e event kind.Bits q is he hv r =
    let m = bind_some (first_by read_max rest) (λ max. guard (is_end max.1) (Some (request.ListenBits e event max.0))) q r in
    let g = guard_some (is_end m.0.1) (Some (request.ListenBits e event m.0.0)) q m.2 in
    let t = first_takes read_max rest m.0 m.1 in
    let d = max_takes t.token m.0.0 t.is in
    subst (TakesRequest (codes "listen" ∷ ts)) (some_is (request.ListenBits e event m.0.0) q g.1)
    (record { tokens = word_before (codes "listen") (followed e kind.Bits event ts rest _ is (token_before t.all d.0 (end_takes m.0.1 g.0))); is = (he, hv, d.1) })
listener_takes ts rest e event kind.Queue q is he hv r =
    let g = guard_some (is_end rest) (Some (request.ListenQueue e event)) q r in
    subst (TakesRequest (codes "listen" ∷ ts)) (some_is (request.ListenQueue e event) q g.1)
    (record { tokens = word_before (codes "listen") (followed e kind.Queue event ts rest _ is (end_takes rest g.0)); is = (he, hv) })

listen_takes : (ts : List (List ℕ)) (q : EventRequest) → read_listen ts ≡ Some q → TakesRequest (codes "listen" ∷ ts) q
unfolding read_listen
listen_takes ts q r =
    let e = bind_some (read_port ts) _ q r in
    let t = port_takes ts e.0 e.1 in
    listener_takes ts e.0.1 e.0.0.0 e.0.0.2 e.0.0.1 q t.tokens t.port t.event e.2

notifier_takes : (ts : List (List ℕ)) (q : EventRequest) → read_notifier ts ≡ Some q → TakesRequest (codes "notifier" ∷ ts) q
unfolding read_notifier
notifier_takes ts q r =
    let n = bind_some (read_port ts) _ q r in
    let g = guard_some (is_end n.0.1) (Some (request.Notifier n.0.0.0 n.0.0.1 n.0.0.2)) q n.2 in
    let t = port_takes ts n.0 n.1 in
    subst (TakesRequest (codes "notifier" ∷ ts)) (some_is (request.Notifier n.0.0.0 n.0.0.1 n.0.0.2) q g.1)
    (record { tokens = word_before (codes "notifier") (followed n.0.0.0 n.0.0.1 n.0.0.2 ts n.0.1 _ t.tokens (end_takes n.0.1 g.0)); is = (t.port, t.event) })

-- ---- calls

notify_takes : (ts : List (List ℕ)) (q : EventRequest) → read_notify ts ≡ Some q → TakesRequest (codes "notify" ∷ ts) q
unfolding read_notify
notify_takes ts q r =
    let n = bind_some (first_by read_name ts) _ q r in
    let i = bind_some (first_by read_number n.0.1) _ q n.2 in
    let g = guard_some (is_end i.0.1) (Some (request.Notify n.0.0 i.0.0)) q i.2 in
    let tn = first_takes read_name ts n.0 n.1 in
    let ti = first_takes read_number n.0.1 i.0 i.1 in
    let nn = name_takes tn.token n.0.0 tn.is in
    let d = number_takes ti.token i.0.0 ti.is in
    subst (TakesRequest (codes "notify" ∷ ts)) (some_is (request.Notify n.0.0 i.0.0) q g.1)
    (record { tokens = word_before (codes "notify") (token_before tn.all nn.token (token_before ti.all d.0 (end_takes i.0.1 g.0))); is = (nn.named, d.1) })

wait_takes : (ts : List (List ℕ)) (q : EventRequest) → read_wait ts ≡ Some q → TakesRequest (codes "wait" ∷ ts) q
unfolding read_wait
wait_takes ts q r =
    let e = bind_some (first_by read_name ts) _ q r in
    let c = bind_some (first_by read_count e.0.1) _ q e.2 in
    let m = bind_some (first_by read_mode c.0.1) _ q c.2 in
    let g = guard_some (is_end m.0.1) (Some (request.Wait e.0.0 c.0.0 m.0.0)) q m.2 in
    let te = first_takes read_name ts e.0 e.1 in
    let tc = first_takes read_count e.0.1 c.0 c.1 in
    let tm = first_takes read_mode c.0.1 m.0 m.1 in
    let ne = name_takes te.token e.0.0 te.is in
    subst (TakesRequest (codes "wait" ∷ ts)) (some_is (request.Wait e.0.0 c.0.0 m.0.0) q g.1)
    (record { tokens = word_before (codes "wait") (token_before te.all ne.token (token_before tc.all (count_takes tc.token c.0.0 tc.is) (token_before tm.all (mode_takes tm.token m.0.0 tm.is) (end_takes m.0.1 g.0)))); is = ne.named })

request_takes : (ts : List (List ℕ)) (q : EventRequest) → read_request ts ≡ Some q → TakesRequest ts q
unfolding read_request
request_takes [] q e = absurd cc
request_takes (word ∷ ts) q e =
    by_word (λ w. TakesRequest (w ∷ ts) q) word (codes "listen") _ _ q e (listen_takes ts q)
    (λ e. by_word (λ w. TakesRequest (w ∷ ts) q) word (codes "notifier") _ _ q e (notifier_takes ts q)
    (λ e. by_word (λ w. TakesRequest (w ∷ ts) q) word (codes "notify") _ _ q e (notify_takes ts q)
    (λ e. by_word (λ w. TakesRequest (w ∷ ts) q) word (codes "wait") _ _ q e (wait_takes ts q)
    (no_word (TakesRequest (word ∷ ts) q) q))))

request_again : (q : EventRequest) → IsEventRequest q → read_request (request_tokens q) ≡ Some q
unfolding read_request read_listen read_listener read_notifier read_notify read_wait
request_again (request.ListenBits e v max) h = rw (port_again e kind.Bits v h.0 h.1 (decimal max ∷ []), max_again max h.2) refl
request_again (request.ListenQueue e v) h = rw (port_again e kind.Queue v h.0 h.1 []) refl
request_again (request.Notifier n k v) h = rw (port_again n k v h.0 h.1 []) refl
request_again (request.Notify n id) h = rw (name_again n h.0, number_again id h.1) refl
request_again (request.Wait e many m) h = rw (name_again e h, count_again many, mode_again m) refl

-- ---- lines

pub record TakesScriptLine (ts : List (List ℕ)) (l : ScriptLine) : Type 0 where
  pub tokens : ts ≡ script_tokens l
  pub is : IsScriptLine l

event_begin_takes : (ts : List (List ℕ)) (l : ScriptLine) → read_event_begin ts ≡ Some l → TakesScriptLine (codes "begin" ∷ ts) l
unfolding read_event_begin
event_begin_takes ts l r =
    let p = bind_some (first_by read_name ts) _ l r in
    let q = bind_some (read_request p.0.1) (λ q. Some (line.Event p.0.0 q)) l p.2 in
    let tp = first_takes read_name ts p.0 p.1 in
    let np = name_takes tp.token p.0.0 tp.is in
    let tq = request_takes p.0.1 q.0 q.1 in
    subst (TakesScriptLine (codes "begin" ∷ ts)) (some_is (line.Event p.0.0 q.0) l q.2)
    (record { tokens = word_before (codes "begin") (token_before tp.all np.token tq.tokens); is = (np.named, tq.is) })

expire_takes : (ts : List (List ℕ)) (l : ScriptLine) → read_expire ts ≡ Some l → TakesScriptLine (codes "expire" ∷ ts) l
unfolding read_expire
expire_takes ts l e =
    let p = bind_some (read_one_name ts) (λ p. Some (line.Expire p)) l e in
    let t = one_takes ts p.0 p.1 in
    subst (TakesScriptLine (codes "expire" ∷ ts)) (some_is (line.Expire p.0) l p.2)
    (record { tokens = word_before (codes "expire") t.tokens; is = t.named })

pub event_line_takes : (ts : List (List ℕ)) (l : ScriptLine) → read_event_line ts ≡ Some l → TakesScriptLine ts l
unfolding read_event_line
event_line_takes [] l e = absurd cc
event_line_takes (word ∷ ts) l e =
    by_word (λ w. TakesScriptLine (w ∷ ts) l) word (codes "begin") _ _ l e (event_begin_takes ts l)
    (λ e. by_word (λ w. TakesScriptLine (w ∷ ts) l) word (codes "expire") _ _ l e (expire_takes ts l)
    (no_word (TakesScriptLine (word ∷ ts) l) l))

pub event_again : (p : List ℕ) (q : EventRequest) → is_name p ≡ true → IsEventRequest q → read_event_line (script_tokens (line.Event p q)) ≡ Some (line.Event p q)
unfolding read_event_line read_event_begin
event_again p q hp hq = rw (name_again p hp, request_again q hq) refl

pub expire_again : (p : List ℕ) → is_name p ≡ true → read_event_line (script_tokens (line.Expire p)) ≡ Some (line.Expire p)
unfolding read_event_line read_expire
expire_again p h = rw (one_again p h) refl

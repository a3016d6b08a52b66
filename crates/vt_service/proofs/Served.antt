-- A line that was read and is served without a change of the session.
use Rattle.std.proofs.Common.{◌≡◌, ◌++◌, ◌∷◌, ℕ, [], List, Option, Some, refl, ap, subst, inl, inr, ◌∙◌}
use Rattle.std.specs.Prelude.{IsUtf8}
use Rattle.serde_json.specs.Data.{Data}
use Rattle.serde_json.specs.Read.{read}
use Rattle.vt_session.specs.declared.session.Session.{Session}
use Rattle.vt_session.specs.Sessions.{waiting}
use Rattle.vt_service.specs.Answers.{refusal_data}
use Rattle.vt_service.specs.Requests.{IsRefused, Reads}
use Rattle.vt_service.specs.Service.{IsAsked, Serves, answered, number_of, refused, served, unanswered}
use Rattle.vt_service.specs.declared.members.Malformed.{Malformed}
use Rattle.vt_service.specs.declared.members.Malformed.TheVariants.{NoMemory}
use Rattle.vt_service.specs.declared.request.Question.{Question}
use Rattle.vt_service.specs.declared.request.Request.TheVariants as requests

module _ (session : Session) (line : List ℕ) (d : Data) (old new : List (Option Data)) (none : waiting session ≡ []) (utf8 : IsUtf8 line) (is : read line ≡ Some d) where
  pub turned_down : (number : Option ℕ) (why : Malformed) → number ≡ number_of d → IsRefused d why → new ≡ old ++ Some (refusal_data number why) ∷ []
      → Serves session line session old new
  turned_down number why same refusal lines = record {
    told = Some (refusal_data (number_of d) why) ∷ [];
    answered = served d session (Some (refusal_data (number_of d) why) ∷ []) utf8 is (refused why refusal);
    lines = lines ∙ ap (λ (n : Option ℕ). old ++ Some (refusal_data n why) ∷ []) same;
    taken = none;
  }

  asked_so : (question : Question) → Reads d (requests.Question question) → IsAsked session (number_of d) question old new → Serves session line session old new
  asked_so question reads (inl (value, is_value, lines)) = record {
    told = _;
    answered = served d session _ utf8 is (answered question value reads is_value);
    lines = lines;
    taken = none;
  }
  asked_so question reads (inr lines) = record {
    told = Some (refusal_data (number_of d) NoMemory) ∷ [];
    answered = served d session (Some (refusal_data (number_of d) NoMemory) ∷ []) utf8 is (unanswered question reads);
    lines = lines;
    taken = none;
  }

  pub asked : (number : Option ℕ) (question : Question) → number ≡ number_of d → Reads d (requests.Question question) → IsAsked session number question old new
      → Serves session line session old new
  asked number question same reads h = asked_so question reads (subst (λ (n : Option ℕ). IsAsked session n question old new) same h)

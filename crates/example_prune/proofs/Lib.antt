mod Sample
